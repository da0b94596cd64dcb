use Rattle.gt_http.proofs.place.field_lines.Given as goal
use Rattle.gt_http.specs.Place.{field_lines}
use Rattle.gt_http.specs.declared.place.Place.TheVariants.{Blank}
use Rattle.std.proofs.Common.{drop, ◌+◌, ◌≡◌, ◌≤◌}

-- those counted and those among the bytes that are left are all of them
abbrev pub invariant-loop-byte : goal.invariant-loop-byte
invariant-loop-byte l =
    (l.count ≤ l.byte-index) × (l.count + field_lines l.place (drop l.byte-index l.bytes) ≡ field_lines Blank l.bytes)
