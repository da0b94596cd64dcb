-- Moments: their range, what a text stands for, and what is printed (the profile of RFC 3339 that is read and written).
use Rattle.std.specs.Prelude.{List, None, Option, Some, [], codes, int_le, pos, suc, unsigned_abs, zero, ℕ, ℤ, if◌then◌else◌, ◌%◌, ◌&&◌, ◌*ℤ◌, ◌+ℤ◌, ◌+◌, ◌++◌, ◌-ℤ◌, ◌/◌, ◌∷◌}
use Rattle.gt_values.specs.Ascii.{colon, digit_zero, hyphen, upper_t}
use Rattle.gt_values.specs.Grammar.{after_fraction, after_mark, clock, date, offset, ◌>>=◌}
use Rattle.jiff_core.specs.Calendar.{days_from_civil}

-- the last moment, 9999-12-31T23:59:59Z
abbrev pub last_moment : ℕ
last_moment = 253_402_300_799

-- seconds since 1970, if they are a moment
abbrev pub in_range : ℤ → Option ℕ
in_range z = if int_le (pos 0) z && int_le z (pos last_moment) then Some (unsigned_abs z) else None

-- the moment that a text stands for
unfoldable pub moment_of : List ℕ → Option ℕ
moment_of text = do
  day ← date text
  s ← after_mark day.1
  time ← clock s
  t ← after_fraction time.1
  east ← offset t
  in_range (day.0 *ℤ pos 86_400 +ℤ pos time.0 -ℤ east)

-- a number below 100 in two digits
abbrev pub pad2 : ℕ → List ℕ
pad2 n = (digit_zero + n / 10) ∷ (digit_zero + n % 10) ∷ []

-- a number below 10,000 in four digits
abbrev pub pad4 : ℕ → List ℕ
pad4 n = pad2 (n / 100) ++ pad2 (n % 100)

-- the greatest number up to this one that begins no later than the day, or 0
unfoldable pub latest : ℕ → (ℕ → ℤ) → ℤ → ℕ
latest zero start day = 0
latest (suc n) start day = if int_le (start (suc n)) day then suc n else latest n start day

-- the year of a day number from 1970 on: the latest whose first day is no later
unfoldable pub year_of : ℤ → ℕ
year_of day = latest 9999 (λ y. days_from_civil (pos y) 1 1) day

-- the month of that year whose first day is no later
unfoldable pub month_of : ℤ → ℕ
month_of day = latest 12 (λ m. days_from_civil (pos (year_of day)) m 1) day

-- the day of that month
unfoldable pub day_of : ℤ → ℕ
day_of day = unsigned_abs (day -ℤ days_from_civil (pos (year_of day)) (month_of day) 1) + 1

-- YYYY-MM-DDThh:mm:ss+00:00
unfoldable pub printed : ℕ → List ℕ
printed moment =
    let day = pos (moment / 86_400) in
    let second = moment % 86_400 in
    pad4 (year_of day) ++ hyphen ∷ pad2 (month_of day) ++ hyphen ∷ pad2 (day_of day)
    ++ upper_t ∷ pad2 (second / 3600) ++ colon ∷ pad2 (second / 60 % 60) ++ colon ∷ pad2 (second % 60)
    ++ codes "+00:00"
