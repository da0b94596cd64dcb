-- The parts of a moment's text, each read from the front of a list of bytes.
use Rattle.std.specs.Char.{is_ascii_digit}
use Rattle.std.specs.List.{prefix_len}
use Rattle.std.specs.Prelude.{Bool, List, None, Option, Some, [], drop, length, min, nat_le, neg_ℤ, pos, ℕ, ℤ, if◌then◌else◌, ◌&&◌, ◌*◌, ◌+◌, ◌-◌, ◌==◌, ◌||◌, ◌∷◌}
use Rattle.gt_values.specs.Ascii.{colon, digit_zero, full_stop, hyphen, lower_t, lower_z, plus, space, upper_t, upper_z}
use Rattle.jiff_core.specs.Calendar.{days_from_civil, days_in_month}

-- a value and the text after it, if the text begins with such a value
abbrev pub Read : Type 0 → Type 0
Read A = Option (A × List ℕ)

-- what comes after a first part, if that is there
infixl 10 ◌>>=◌
abbrev pub ◌>>=◌ : {A B : Type 0} → Option A → (A → Option B) → Option B
None >>= f = None
Some x >>= f = f x

-- the text after this byte
abbrev pub after : ℕ → List ℕ → Option (List ℕ)
after b [] = None
after b (c ∷ rest) = if c == b then Some rest else None

-- two digits
unfoldable pub two_digits : List ℕ → Read ℕ
two_digits (a ∷ b ∷ rest) =
    if is_ascii_digit a && is_ascii_digit b then Some ((a - digit_zero) * 10 + (b - digit_zero), rest) else None
two_digits _ = None

-- four digits
unfoldable pub four_digits : List ℕ → Read ℕ
four_digits text = do
  a ← two_digits text
  b ← two_digits a.1
  Some (a.0 * 100 + b.0, b.1)

-- the calendar has this year, month and day of the month
abbrev pub is_date : ℕ → ℕ → ℕ → Bool
is_date y m d = nat_le 1 m && (nat_le m 12 && (nat_le 1 d && nat_le d (days_in_month (pos y) m)))

-- YYYY-MM-DD, as the number of days since 1970-01-01
unfoldable pub date : List ℕ → Read ℤ
date text = do
  y ← four_digits text
  s ← after hyphen y.1
  m ← two_digits s
  t ← after hyphen m.1
  d ← two_digits t
  if is_date y.0 m.0 d.0 then Some (days_from_civil (pos y.0) m.0 d.0, d.1) else None

-- hh:mm:ss, as seconds since midnight; a second of 60 is read as 59
unfoldable pub clock : List ℕ → Read ℕ
clock text = do
  h ← two_digits text
  s ← after colon h.1
  m ← two_digits s
  t ← after colon m.1
  x ← two_digits t
  if nat_le h.0 23 && (nat_le m.0 59 && nat_le x.0 60)
      then Some (h.0 * 3600 + m.0 * 60 + min x.0 59, x.1) else None

-- `T`, `t` or a space
unfoldable pub after_mark : List ℕ → Option (List ℕ)
after_mark [] = None
after_mark (c ∷ rest) = if (c == upper_t) || ((c == lower_t) || (c == space)) then Some rest else None

-- how many digits stand at the front
abbrev pub digits : List ℕ → ℕ
digits text = prefix_len is_ascii_digit text

-- a dot and one to nine digits, which are dropped, or nothing
unfoldable pub after_fraction : List ℕ → Option (List ℕ)
after_fraction [] = Some []
after_fraction (c ∷ rest) =
    if c == full_stop
    then (if nat_le 1 (digits rest) && nat_le (digits rest) 9 then Some (drop (digits rest) rest) else None)
    else Some (c ∷ rest)

-- hh:mm to the end of the text, in seconds
unfoldable pub hours_and_minutes : List ℕ → Option ℕ
hours_and_minutes text = do
  h ← two_digits text
  s ← after colon h.1
  m ← two_digits s
  if nat_le h.0 23 && (nat_le m.0 59 && (length m.1 == 0)) then Some (h.0 * 3600 + m.0 * 60) else None

-- an offset to the end of the text, in seconds east of UTC: nothing, `Z`, `z`, `+hh:mm` or `-hh:mm`
unfoldable pub offset : List ℕ → Option ℤ
offset [] = Some (pos 0)
offset (c ∷ rest) =
    if (c == upper_z) || (c == lower_z) then (if length rest == 0 then Some (pos 0) else None)
    else (if c == plus then (hours_and_minutes rest >>= (λ n. Some (pos n)))
    else (if c == hyphen then (hours_and_minutes rest >>= (λ n. Some (neg_ℤ (pos n))))
    else None))
