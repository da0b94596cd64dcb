use Rattle.gt_forest.proofs.mem.fresh_trees.Given as goal
use Rattle.gt_forest.specs.Rows.{fresh_rows}
use Rattle.std.proofs.Common.{replicate, ◌≡◌}

abbrev pub invariant-loop-i : goal.invariant-loop-i
invariant-loop-i l = l.trees.items ≡ replicate l._i fresh_rows
