use Rattle.gt_http.proofs.fields.count_named.Given as goal
use Rattle.gt_http.specs.Head.{count_named}
use Rattle.httparse.specs.Spans.{header_bytes}
use Rattle.std.proofs.Common.{drop, map, ◌+◌, ◌≡◌, ◌≤◌}

-- those counted and those among the fields that are left are all of them
abbrev pub invariant-loop-header : goal.invariant-loop-header
invariant-loop-header l =
    (l.count ≤ l.header-index)
    × (l.count + count_named l.name (map (header_bytes l.bytes) (drop l.header-index l.headers)) ≡ count_named l.name (map (header_bytes l.bytes) l.headers))
