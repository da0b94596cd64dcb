use Rattle.gt_streams.proofs.exact.read_exactly.Given as goal
use Rattle.gt_streams.specs.Streams.{IsSameSource}
use Rattle.std.proofs.Common.{IsTrue, length, ◌++◌, ◌-◌, ◌≡◌, ◌≤◌}

abbrev pub invariant-loop-piece : goal.invariant-loop-piece
invariant-loop-piece g l = record {
  same : IsSameSource g.S.Source.words l.fn.source l.source;
  counted : g.S.Source.words.faults l.source ≡ g.S.Source.words.faults l.fn.source;
  size : length l.into.items ≤ l.want;
  bytes : IsTrue (g.S.Source.words.told l.fn.source) → g.S.Source.words.left l.fn.source ≡ l.into.items ++ g.S.Source.words.left l.source;
}

abbrev pub decreases-loop-piece : goal.decreases-loop-piece
decreases-loop-piece g l = l.want - length l.into.items
