use Rattle.gt_http.proofs.framing.close.Given as goal
use Rattle.gt_http.specs.Head.{says_close}
use Rattle.httparse.specs.Spans.{header_bytes}
use Rattle.std.proofs.Common.{drop, map, ◌≡◌}
use Rattle.std.specs.List.{list_any}

-- the fields before don't say so
abbrev pub invariant-loop-header : goal.invariant-loop-header
invariant-loop-header l =
    list_any says_close (map (header_bytes l.bytes) l.headers) ≡ list_any says_close (map (header_bytes l.bytes) (drop l.header-index l.headers))
