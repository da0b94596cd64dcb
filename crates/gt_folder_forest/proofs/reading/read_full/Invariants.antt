use Rattle.gt_folder_forest.proofs.reading.read_full.Given as goal
use Rattle.std.proofs.Common.{length, ◌-◌, ◌≤◌}

-- no more was read than there is room for
abbrev pub invariant-loop-have : goal.invariant-loop-have
invariant-loop-have g l = l.have ≤ length l.into

-- each round reads a byte at least
abbrev pub decreases-loop-have : goal.decreases-loop-have
decreases-loop-have g l = length l.into - l.have
