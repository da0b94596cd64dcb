use Rattle.std.proofs.Common.{filter, take, ◌≡◌}
use Rattle.gt_access.specs.Best.{score}
use Rattle.gt_access.specs.Right.{applies}
use Rattle.gt_access.proofs.BestLemmas.{best_of}
use Rattle.gt_access.proofs.look_up.right_on.Given as goal

-- the best of the rows met so far
abbrev pub invariant-loop-row : goal.invariant-loop-row
invariant-loop-row l = score l.best ≡ best_of (filter (applies l.seq l.who l.collection l.path) (take l.row-index l.rows))
