-- What a text has to be to stand for a moment, part by part: the profile of RFC 3339 that is read.
use Rattle.std.specs.Char.{is_ascii_digit}
use Rattle.std.specs.List.{list_all}
use Rattle.std.specs.Prelude.{IsTrue, List, Some, [], length, min, neg_ℤ, pos, ℕ, ℤ, ◌*ℤ◌, ◌*◌, ◌+ℤ◌, ◌+◌, ◌++◌, ◌-ℤ◌, ◌↔◌, ◌≡◌, ◌≤◌, ◌⊎◌, ◌∷◌}
use Rattle.gt_values.specs.Ascii.{colon, full_stop, hyphen, lower_t, lower_z, plus, space, upper_t, upper_z}
use Rattle.gt_values.specs.Grammar.{is_date}
use Rattle.gt_values.specs.Moment.{last_moment, moment_of, pad2, pad4}
use Rattle.jiff_core.specs.Calendar.{days_from_civil}

-- a dot and one to nine digits
pub record IsFraction (text : List ℕ) : Type 0 where
  pub digits : List ℕ
  pub text_is : text ≡ full_stop ∷ digits
  pub are_digits : IsTrue (list_all is_ascii_digit digits)
  pub count : (1 ≤ length digits) × (length digits ≤ 9)

-- a sign, then hours and minutes, and the seconds that they make
pub record IsOffset (sign : ℕ) (text : List ℕ) (seconds : ℕ) : Type 0 where
  pub hours : ℕ
  pub minutes : ℕ
  pub text_is : text ≡ sign ∷ pad2 hours ++ colon ∷ pad2 minutes
  pub within : (hours ≤ 23) × (minutes ≤ 59)
  pub seconds_are : seconds ≡ hours * 3600 + minutes * 60

-- seconds east of UTC: nothing, `Z` or `z` for none, `+hh:mm` to the east, `-hh:mm` to the west
abbrev pub IsZone : List ℕ → ℤ → Type 0
IsZone text east =
    ((east ≡ pos 0) × ((text ≡ []) ⊎ (text ≡ upper_z ∷ []) ⊎ (text ≡ lower_z ∷ [])))
    ⊎ ((seconds : ℕ) × (east ≡ pos seconds) × IsOffset plus text seconds)
    ⊎ ((seconds : ℕ) × (east ≡ neg_ℤ (pos seconds)) × IsOffset hyphen text seconds)

-- the text writes the moment: a date of the calendar, a mark, a time of day in which a second of 60 counts as 59, a
-- fraction that doesn't count, and an offset
pub record WritesMoment (text : List ℕ) (moment : ℕ) : Type 0 where
  pub year : ℕ
  pub month : ℕ
  pub day : ℕ
  pub mark : ℕ
  pub hour : ℕ
  pub minute : ℕ
  pub second : ℕ
  pub fraction : List ℕ
  pub zone : List ℕ
  pub east : ℤ
  pub text_is :
      text ≡ pad4 year ++ hyphen ∷ pad2 month ++ hyphen ∷ pad2 day ++ mark ∷
      pad2 hour ++ colon ∷ pad2 minute ++ colon ∷ pad2 second ++ fraction ++ zone
  pub date_is : (year ≤ 9999) × IsTrue (is_date year month day)
  pub mark_is : (mark ≡ upper_t) ⊎ (mark ≡ lower_t) ⊎ (mark ≡ space)
  pub time_is : (hour ≤ 23) × (minute ≤ 59) × (second ≤ 60)
  pub fraction_is : (fraction ≡ []) ⊎ IsFraction fraction
  pub zone_is : IsZone zone east
  pub moment_is :
      pos moment
      ≡ days_from_civil (pos year) month day *ℤ pos 86_400 +ℤ pos (hour * 3600 + minute * 60 + min second 59) -ℤ east
  pub in_range : moment ≤ last_moment

-- a text stands for a moment exactly where it writes it
abbrev pub MomentProfile : Type 0
MomentProfile = (text : List ℕ) (moment : ℕ) → (moment_of text ≡ Some moment) ↔ WritesMoment text moment
