-- A date that jiff made is the date that the text wrote.
use Rattle.std.proofs.Common.{◌≡◌, ℕ, ◌≤◌, ℤ, pos, Some, None, true, if◌then◌else◌, arith, refl, ◌∙◌}
use Rattle.std.proofs.lemmas.Bool.Decides.{nat_tests}
use Rattle.jiff_core.specs.Calendar.{days_in_month, days_from_civil}
use Rattle.jiff_core.specs.declared.civil.date.Date.{Date}
use Rattle.gt_values.specs.Grammar.{is_date}

pub is_date-true : (y m d : ℕ) → 1 ≤ m → m ≤ 12 → 1 ≤ d → d ≤ days_in_month (pos y) m → is_date y m d ≡ true
is_date-true y m d a b e f = grind (arith, nat_tests)

pub found : (y m d : ℕ) (date : Date) (r : ℤ) → date.year ≡ pos y → date.month ≡ m → date.day ≡ d
    → r ≡ days_from_civil date.year date.month date.day
    → Some r ≡ (if is_date y m d then Some (days_from_civil (pos y) m d) else None)
found y m d date r year month day is =
    let in_month = rw (year, month, day) at date.day_in in
    let in_year = rw month at date.month_in in
    let whole = is_date-true y m d in_year.0 in_year.1 in_month.0 in_month.1 in
    let same : r ≡ days_from_civil (pos y) m d = is ∙ rw (year, month, day) refl in
    rw (whole, same) refl
