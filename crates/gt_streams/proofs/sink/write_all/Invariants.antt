use Rattle.gt_streams.proofs.sink.write_all.Given as goal
use Rattle.gt_streams.specs.Streams.{IsSameSink}
use Rattle.std.proofs.Common.{IsTrue, length, take, ◌++◌, ◌-◌, ◌≡◌, ◌≤◌}

abbrev pub invariant-loop-wrote : goal.invariant-loop-wrote
invariant-loop-wrote g l = record {
  size : l.wrote ≤ length l.bytes;
  same : IsSameSink g.K.Sink.words l.fn.sink l.sink;
  bytes : IsTrue (g.K.Sink.words.told l.fn.sink) → g.K.Sink.words.taken l.sink ≡ g.K.Sink.words.taken l.fn.sink ++ take l.wrote l.bytes;
  untouched : length l.bytes ≡ 0 → l.sink ≡ l.fn.sink;
}

abbrev pub decreases-loop-wrote : goal.decreases-loop-wrote
decreases-loop-wrote g l = length l.bytes - l.wrote
