use Rattle.gt_folder_forest.proofs.forest.homes_of.Given as goal
use Rattle.std.proofs.Common.{length, ◌≡◌}

-- one for each collection so far
abbrev pub invariant-loop-i : goal.invariant-loop-i
invariant-loop-i l = length l.homes.items ≡ l.i
