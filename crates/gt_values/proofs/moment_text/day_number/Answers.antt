use Rattle.std.proofs.Common.{arith, ◌≡◌, pos, ◌∙◌, to_z, of_z, w32}
use Rattle.jiff_core.proofs.SignedLemmas.{signed_arith, signed_casts}
use Rattle.jiff_core.specs.Calendar.{days_from_civil}
use Rattle.gt_values.proofs.DateLemmas.{found}
use Rattle.gt_values.proofs.moment_text.day_number.Goals as goal

pub returns-in-Ok-clause-value : goal.returns-in-Ok-clause-value
returns-in-Ok-clause-value c =
    let v = c.in-Ok.ensures.value in
    let year : c.in-Ok.date.year ≡ pos c.args.year = omega (arith, signed_casts) in
    let month : c.in-Ok.date.month ≡ c.args.month = omega (arith, signed_casts) in
    let day : c.in-Ok.date.day ≡ c.args.day = omega (arith, signed_casts) in
    let back : to_z w32 (of_z w32 c.to_unix_epoch_day.result) ≡ c.to_unix_epoch_day.result = omega (arith, signed_arith) in
    let is : c.to_unix_epoch_day.result ≡ days_from_civil c.in-Ok.date.year c.in-Ok.date.month c.in-Ok.date.day =
    rw c.to_plain.ensures at c.to_unix_epoch_day.ensures.value in
    found c.args.year c.args.month c.args.day c.in-Ok.date _ year month day (back ∙ is)
