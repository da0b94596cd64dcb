use Rattle.gt_http.proofs.FieldLemmas.{digits_are_text, digits_parse}
use Rattle.gt_http.proofs.framing.number.Goals as goal
use Rattle.std.proofs.Common.{length, rules, true, ◌<◌, ◌≡◌, ◌≤◌}
use Rattle.std.specs.Str.{all_ascii_digits}

pub unreachable-requires : goal.unreachable-requires
unreachable-requires c =
    let s = c.args.value.now in
    let digits : all_ascii_digits s ≡ true = search rules in
    let some : 0 < length s = search rules in
    let short : length s ≤ 19 = search rules in
    digits_parse c.in-Ok.text.now s c.in-Err-parse.field-0 c.in-Err-parse.ensures.value.0 c.in-Ok.ensures.cases.0 digits some short

pub unreachable-requires-in-Err : goal.unreachable-requires-in-Err
unreachable-requires-in-Err c =
    let digits : all_ascii_digits c.args.value.now ≡ true = search rules in
    c.in-Err.ensures.cases.0 (digits_are_text c.args.value.now digits)
