use Rattle.gt_http.proofs.LineLemmas.{exceeding_lines, lines_overflow}
use Rattle.gt_http.proofs.head.is_open.Goals as goal
use Rattle.gt_http.specs.Place.{field_lines}
use Rattle.gt_http.specs.declared.place.Place.TheVariants.{Blank}
use Rattle.std.proofs.Common.{arith, ◌<◌}
use Rattle.std.proofs.lemmas.Bool.Decides.{nat_tests}

pub returns-in-Ok-clause-few : goal.returns-in-Ok-clause-few
returns-in-Ok-clause-few c few exceeds =
    let lines = exceeding_lines 64 c.args.bytes.now exceeds in
    grind (arith, nat_tests, lines, few, c.field_lines.ensures)

pub returns-in-Ok-clause-err : goal.returns-in-Ok-clause-err
returns-in-Ok-clause-err c full =
    let lines : 64 < field_lines Blank c.args.bytes.now = grind (arith, nat_tests, full, c.field_lines.ensures) in
    lines_overflow 64 c.args.bytes.now c.requires.none lines
