use Rattle.gt_http.proofs.PlaceLemmas.{IsSoFar}
use Rattle.gt_http.proofs.head.read_head.Given as goal
use Rattle.gt_http.specs.Head.{most_fields, most_head_bytes}
use Rattle.gt_streams.specs.Streams.{IsSameSource}
use Rattle.httparse.specs.Grammar.{HasNoRequest}
use Rattle.std.proofs.Common.{IsTrue, length, vec_capacity, ◌++◌, ◌-◌, ◌≡◌, ◌≤◌}

-- the bytes taken hold no head
abbrev pub invariant-head : goal.invariant-head
invariant-head g l = record {
  same : IsSameSource g.S.Source.words l.fn.source l.source;
  room : length l.headers ≡ most_fields;
  size : length l.bytes.items ≤ most_head_bytes;
  capacity : vec_capacity l.bytes ≡ most_head_bytes;
  none : HasNoRequest l.bytes.items;
  blank : IsSoFar l.place l.bytes.items;
  left : IsTrue (g.S.Source.words.told l.fn.source) → g.S.Source.words.left l.fn.source ≡ l.bytes.items ++ g.S.Source.words.left l.source;
}

abbrev pub decreases-head : goal.decreases-head
decreases-head g l = most_head_bytes - length l.bytes.items
