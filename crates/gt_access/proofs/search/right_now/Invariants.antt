use Rattle.std.proofs.Common.{filter, length, ◌+◌, ◌≡◌, ◌≤◌}
use Rattle.gt_access.specs.Right.{applies}
use Rattle.gt_access.proofs.BestLemmas.{best_of}
use Rattle.gt_access.proofs.FrontLemmas.{shorter}
use Rattle.gt_access.proofs.search.right_now.Given as goal

-- no longer front decides
abbrev pub invariant-loop-depth : goal.invariant-loop-depth
invariant-loop-depth l = record {
  within : l.depth ≤ length l.path + 1;
  left : best_of (filter (shorter (applies l.seq l.who l.collection l.path) l.depth) l.rows)
      ≡ best_of (filter (applies l.seq l.who l.collection l.path) l.rows);
}

abbrev pub decreases-loop-depth : goal.decreases-loop-depth
decreases-loop-depth l = l.depth
