-- The printed text is jiff's text of the date and time, and reads back.
use Rattle.std.proofs.Common.{◌≡◌, ℕ, zero, suc, ◌+◌, ◌-◌, ◌*◌, ◌/◌, ◌%◌, ◌<◌, ◌≤◌, ℤ, pos, negsuc, ◌+ℤ◌, ◌-ℤ◌, ◌*ℤ◌, ◌≤ℤ◌, ◌<ℤ◌, int_le, List, ◌∷◌, ◌++◌, Some, true, false, arith, ap, sym, refl, ◌∙◌, subst, inl, inr, codes}
use Rattle.std.proofs.lemmas.Bool.{cases_lt}
use Rattle.std.proofs.lemmas.Int.{ints}
use Rattle.std.proofs.lemmas.Bool.Decides.{nat_tests}
use Rattle.jiff_core.proofs.SignedLemmas.{signed_arith, one_part}
use Rattle.jiff_core.proofs.CalendarLemmas.{days_in_month_bounds, days_from_civil-day_count, day_count-day_of_year, day_count-lt_year, day_count-lt_month, day_count-day, day_count-epoch}
use Rattle.jiff_core.proofs.DateLemmas.{civil, days_from_civil-day}
use Rattle.jiff_core.proofs.DateTimeLemmas.{civil_nanos-parts, time_nanos_bound}
use Rattle.jiff_core.specs.Calendar.{days_from_civil}
use Rattle.jiff_core.specs.Date.{epoch_day}
use Rattle.jiff_core.specs.DateTime.{civil_nanos}
use Rattle.jiff_core.specs.Time.{time_nanos}
use Rattle.jiff_core.specs.declared.civil.date.Date.{Date}
use Rattle.jiff_core.specs.declared.civil.datetime.DateTime.{DateTime}
use Rattle.jiff_core.specs.declared.civil.time.Time.{Time}
use Rattle.jiff.specs.Words.{iso_datetime_text}
use Rattle.gt_values.specs.Moment.{latest, year_of, month_of, day_of, printed, pad2, pad4, moment_of, in_range}
use Rattle.gt_values.specs.Grammar.{two_digits, four_digits, date, is_date, clock, after_mark, after_fraction, hours_and_minutes, offset}
use Rattle.gt_values.proofs.DateLemmas.{is_date-true}
use Rattle.std.specs.Int.{is_in_range}
use Rattle.std.specs.Prelude.{◌&&◌, nat_le, min}

pub int_le-true : (a b : ℤ) → a ≤ℤ b → int_le a b ≡ true
int_le-true a b h = grind (arith, ints)

int_le-false : (a b : ℤ) → b <ℤ a → int_le a b ≡ false
int_le-false a b h = grind (arith, ints)

-- the greatest that begins by then is the one after which none does
latest-is : (n k : ℕ) (start : ℕ → ℤ) (day : ℤ) → k ≤ n → start k ≤ℤ day
    → ((j : ℕ) → k < j → j ≤ n → day <ℤ start j) → latest n start day ≡ k
unfolding latest
latest-is zero k start day in_range begun later = omega arith
latest-is (suc n) k start day in_range begun later =
    elim (cases_lt k (suc n)) [
      | inl below ↦
          let no : int_le (start (suc n)) day ≡ false = int_le-false _ _ (later (suc n) below (omega arith)) in
          rw no (latest-is n k start day (omega arith) begun (λ j a b. later j a (omega arith)))
      | inr above ↦
          let same : k ≡ suc n = omega arith in
          let yes : int_le (start (suc n)) day ≡ true = int_le-true _ _ (subst (λ x. start x ≤ℤ day) same begun) in
          rw yes (sym same)
    ]

-- the parts of a day number are those of the date
pub year_is : (d : Date) (y : ℕ) → d.year ≡ pos y → y ≤ 9999 → year_of (epoch_day d) ≡ y
unfolding year_of
year_is d y is small =
    let whole = rw is at (civil d) in
    let number : epoch_day d ≡ days_from_civil (pos y) d.month d.day = rw is refl in
    latest-is 9999 y _ (epoch_day d) small
    (rw number (omega (arith, signed_arith, days_from_civil-day_count, day_count-day_of_year (pos y) d.month d.day whole.2.0)))
    (λ j after most. rw number (omega (arith, signed_arith, days_from_civil-day_count, day_count-lt_year (pos y) d.month d.day (pos j) 1 1 whole (omega arith) (omega (arith, signed_arith)))))

pub month_is : (d : Date) (y : ℕ) → d.year ≡ pos y → y ≤ 9999 → month_of (epoch_day d) ≡ d.month
unfolding month_of
month_is d y is small =
    let whole = rw is at (civil d) in
    let number : epoch_day d ≡ days_from_civil (pos y) d.month d.day = rw is refl in
    let same_year = year_is d y is small in
    rw same_year (latest-is 12 d.month _ (epoch_day d) whole.1.1
    (rw number (omega (arith, signed_arith, days_from_civil-day_count, day_count-day (pos y) d.month d.day 1 whole.2.0 (omega arith))))
    (λ j after most. rw number (omega (arith, signed_arith, days_from_civil-day_count, day_count-lt_month (pos y) d.month d.day j 1 whole (omega arith) after))))

pub day_is : (d : Date) (y : ℕ) → d.year ≡ pos y → y ≤ 9999 → day_of (epoch_day d) ≡ d.day
unfolding day_of
day_is d y is small =
    let whole = rw is at (civil d) in
    let number : epoch_day d ≡ days_from_civil (pos y) d.month d.day = rw is refl in
    let same_year = year_is d y is small in
    let same_month = month_is d y is small in
    rw (same_year, same_month, number) (omega (arith, signed_arith, one_part (days_from_civil (pos y) d.month d.day -ℤ days_from_civil (pos y) d.month 1), days_from_civil-day (pos y) d.month d.day 1 whole.2.0 (omega arith), whole.2.0))

-- a date from 1970 on has a year that is no negative number
pub year_of_late : (d : Date) (n : ℕ) → epoch_day d ≡ pos n → (y : ℕ) × (d.year ≡ pos y) × (y ≤ 9999)
year_of_late d n is = by_sign d.year refl
  where
    by_sign : (z : ℤ) → d.year ≡ z → (y : ℕ) × (d.year ≡ pos y) × (y ≤ 9999)
    by_sign (pos y) e = (y, e, omega (arith, signed_arith, (civil d).0))
    by_sign (negsuc k) e = absurd (omega (arith, signed_arith, days_from_civil-day_count, day_count-epoch, day_count-lt_year d.year d.month d.day (pos 1970) 1 1 (civil d) (omega arith) (omega (arith, signed_arith))))

-- the parts of a time of day with no fraction
time_parts_of : (t : Time) (n : ℕ) → time_nanos t ≡ n * 1_000_000_000
    → (t.hour ≡ n / 3600) × (t.minute ≡ n / 60 % 60) × (t.second ≡ n % 60) × (t.subsec_nanosecond ≡ 0)
time_parts_of t n is = omega arith

-- the whole days and the rest
days_and_rest : (m : ℕ) (dt : DateTime) → civil_nanos dt ≡ pos (m * 1_000_000_000)
    → (epoch_day dt.date ≡ pos (m / 86_400)) × (time_nanos dt.time ≡ m % 86_400 * 1_000_000_000)
days_and_rest m dt is = omega (arith, signed_arith, civil_nanos-parts dt, time_nanos_bound dt.time)

-- jiff's text of a date and time with these parts
abbrev text_of : ℕ → ℕ → ℕ → ℕ → ℕ → ℕ → List ℕ
text_of y mo d h mi x =
    pad4 y ++ 45 ∷ pad2 mo ++ 45 ∷ pad2 d ++ 84 ∷ pad2 h ++ 58 ∷ pad2 mi ++ 58 ∷ pad2 x ++ codes "+00:00"

plain_text : (dt : DateTime) (y mo d h mi x : ℕ) → dt.date.year ≡ pos y → dt.date.month ≡ mo → dt.date.day ≡ d
    → dt.time.hour ≡ h → dt.time.minute ≡ mi → dt.time.second ≡ x → dt.time.subsec_nanosecond ≡ 0
    → iso_datetime_text dt ++ codes "+00:00" ≡ text_of y mo d h mi x
plain_text dt y mo d h mi x year month day hour minute second subsec =
    rw (year, month, day, hour, minute, second, subsec) refl

-- so many seconds are printed as jiff prints their date and time
pub printed_is : (m : ℕ) (dt : DateTime) → civil_nanos dt ≡ pos (m * 1_000_000_000)
    → iso_datetime_text dt ++ codes "+00:00" ≡ printed m
unfolding printed
printed_is m dt is =
    let split = days_and_rest m dt is in
    let found = year_of_late dt.date (m / 86_400) split.0 in
    let year = rw split.0 at (year_is dt.date found.0 found.1 found.2) in
    let month = rw split.0 at (month_is dt.date found.0 found.1 found.2) in
    let day = rw split.0 at (day_is dt.date found.0 found.1 found.2) in
    let time = time_parts_of dt.time (m % 86_400) split.1 in
    plain_text dt _ _ _ _ _ _ (found.1 ∙ ap pos (sym year)) (sym month) (sym day) time.0 time.1 time.2 time.3

-- ---- and read back

pub two_digits-pad2 : (n : ℕ) (rest : List ℕ) → n < 100 → two_digits (pad2 n ++ rest) ≡ Some (n, rest)
unfolding two_digits
two_digits-pad2 n rest h =
    let digits : (is_in_range 48 57 (48 + n / 10) && is_in_range 48 57 (48 + n % 10)) ≡ true = grind (arith, nat_tests) in
    let value : (48 + n / 10 - 48) * 10 + (48 + n % 10 - 48) ≡ n = omega arith in
    rw (digits, value)

four_digits-pad4 : (n : ℕ) (rest : List ℕ) → n < 10_000 → four_digits (pad4 n ++ rest) ≡ Some (n, rest)
unfolding four_digits
four_digits-pad4 n rest h =
    let a = two_digits-pad2 (n / 100) (pad2 (n % 100) ++ rest) (omega arith) in
    let b = two_digits-pad2 (n % 100) rest (omega arith) in
    let value : n / 100 * 100 + n % 100 ≡ n = omega arith in
    rw (a, b, value)

pub date-text : (y mo d : ℕ) (rest : List ℕ) → y < 10_000 → mo < 100 → d < 100 → is_date y mo d ≡ true
    → date (pad4 y ++ 45 ∷ pad2 mo ++ 45 ∷ pad2 d ++ rest) ≡ Some (days_from_civil (pos y) mo d, rest)
unfolding date
date-text y mo d rest a b c is =
    let year = four_digits-pad4 y (45 ∷ pad2 mo ++ 45 ∷ pad2 d ++ rest) a in
    let month = two_digits-pad2 mo (45 ∷ pad2 d ++ rest) b in
    let day = two_digits-pad2 d rest c in
    rw (year, month, day, is)

pub clock-text : (h mi x : ℕ) (rest : List ℕ) → h ≤ 23 → mi ≤ 59 → x ≤ 60
    → clock (pad2 h ++ 58 ∷ pad2 mi ++ 58 ∷ pad2 x ++ rest) ≡ Some (h * 3600 + mi * 60 + min x 59, rest)
unfolding clock
clock-text h mi x rest a b c =
    let hour = two_digits-pad2 h (58 ∷ pad2 mi ++ 58 ∷ pad2 x ++ rest) (omega arith) in
    let minute = two_digits-pad2 mi (58 ∷ pad2 x ++ rest) (omega arith) in
    let second = two_digits-pad2 x rest (omega arith) in
    let fits : (nat_le h 23 && (nat_le mi 59 && nat_le x 60)) ≡ true = grind (arith, nat_tests) in
    rw (hour, minute, second, fits)

offset-zero : offset (codes "+00:00") ≡ Some (pos 0)
unfolding offset hours_and_minutes two_digits
offset-zero = refl

no_fraction : after_fraction (codes "+00:00") ≡ Some (codes "+00:00")
unfolding after_fraction
no_fraction = refl

mark : (rest : List ℕ) → after_mark (84 ∷ rest) ≡ Some rest
unfolding after_mark
mark rest = refl

reads : (y mo d h mi x : ℕ) → y < 10_000 → mo < 100 → d < 100 → is_date y mo d ≡ true → h ≤ 23 → mi ≤ 59 → x ≤ 59
    → moment_of (text_of y mo d h mi x) ≡ in_range (days_from_civil (pos y) mo d *ℤ pos 86_400 +ℤ pos (h * 3600 + mi * 60 + x) -ℤ pos 0)
unfolding moment_of
reads y mo d h mi x a b c is hour minute second =
    let clock_text = pad2 h ++ 58 ∷ pad2 mi ++ 58 ∷ pad2 x ++ codes "+00:00" in
    let first = date-text y mo d (84 ∷ clock_text) a b c is in
    let next = mark clock_text in
    let then_ = clock-text h mi x (codes "+00:00") hour minute (omega arith) in
    let small : min x 59 ≡ x = omega arith in
    rw (first, next, then_, small, no_fraction, offset-zero)

pub in_range-at : (z : ℤ) (m : ℕ) → z ≡ pos m → m ≤ 253_402_300_799 → in_range z ≡ Some m
in_range-at z m is small =
    let high : int_le (pos m) (pos 253_402_300_799) ≡ true = int_le-true (pos m) (pos 253_402_300_799) (omega (arith, signed_arith)) in
    let low : nat_le 0 m ≡ true = grind (arith, nat_tests) in
    rw (is, low, high) refl

-- what is printed reads back
pub printed_reads : (m : ℕ) (dt : DateTime) → civil_nanos dt ≡ pos (m * 1_000_000_000) → m ≤ 253_402_300_799
    → moment_of (printed m) ≡ Some m
unfolding printed
printed_reads m dt is small =
    let split = days_and_rest m dt is in
    let found = year_of_late dt.date (m / 86_400) split.0 in
    let y = year_of (pos (m / 86_400)) in
    let mo = month_of (pos (m / 86_400)) in
    let d = day_of (pos (m / 86_400)) in
    let year : y ≡ found.0 = rw split.0 at (year_is dt.date found.0 found.1 found.2) in
    let month : mo ≡ dt.date.month = rw split.0 at (month_is dt.date found.0 found.1 found.2) in
    let day : d ≡ dt.date.day = rw split.0 at (day_is dt.date found.0 found.1 found.2) in
    let y_is : dt.date.year ≡ pos y = found.1 ∙ ap pos (sym year) in
    let whole = rw (y_is, sym month, sym day) at (civil dt.date) in
    let number : days_from_civil (pos y) mo d ≡ pos (m / 86_400) = sym (rw (y_is, sym month, sym day) refl) ∙ split.0 in
    let most = days_in_month_bounds (pos y) mo in
    let n = m % 86_400 in
    reads y mo d (n / 3600) (n / 60 % 60) (n % 60) (omega arith) (omega arith) (omega arith)
    (is_date-true y mo d whole.1.0 whole.1.1 whole.2.0 whole.2.1) (omega arith) (omega arith) (omega arith)
    ∙ in_range-at (days_from_civil (pos y) mo d *ℤ pos 86_400 +ℤ pos (n / 3600 * 3600 + n / 60 % 60 * 60 + n % 60) -ℤ pos 0) m (rw number (omega (arith, signed_arith))) small
