use Rattle.gt_http.proofs.fields.value_of.Given as goal
use Rattle.gt_http.specs.Head.{value_of}
use Rattle.httparse.specs.Spans.{header_bytes}
use Rattle.std.proofs.Common.{drop, map, ◌≡◌}

-- the fields before have another name
abbrev pub invariant-loop-header : goal.invariant-loop-header
invariant-loop-header l =
    value_of l.name (map (header_bytes l.bytes) l.headers) ≡ value_of l.name (map (header_bytes l.bytes) (drop l.header-index l.headers))
