use Rattle.gt_streams.proofs.line.read_line.Given as goal
use Rattle.gt_streams.specs.Reading.{HasNoNewline}
use Rattle.gt_streams.specs.Streams.{IsSameSource}
use Rattle.std.proofs.Common.{IsTrue, length, ◌++◌, ◌-◌, ◌≡◌, ◌≤◌}

abbrev pub invariant-loop-into : goal.invariant-loop-into
invariant-loop-into g l = record {
  same : IsSameSource g.S.Source.words l.fn.source l.source;
  counted : g.S.Source.words.faults l.source ≡ g.S.Source.words.faults l.fn.source;
  size : length l.into.items ≤ l.max;
  plain : HasNoNewline l.into.items;
  bytes : IsTrue (g.S.Source.words.told l.fn.source) → g.S.Source.words.left l.fn.source ≡ l.into.items ++ g.S.Source.words.left l.source;
}

abbrev pub decreases-loop-into : goal.decreases-loop-into
decreases-loop-into g l = l.max - length l.into.items
