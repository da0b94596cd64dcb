-- What a text stands for as an identifier, and how one is printed: the four spellings of a UUID (RFC 9562, section 4).
use Rattle.std.specs.List.{starts_with}
use Rattle.std.specs.Prelude.{All, Bool, List, None, Option, Some, [], codes, drop, length, map, nat_eq, nat_le, nat_lt, not, take, ℕ, if◌then◌else◌, ◌%◌, ◌&&◌, ◌+◌, ◌++◌, ◌-◌, ◌/◌, ◌<◌, ◌==◌, ◌↔◌, ◌≡◌, ◌⊎◌, ◌∷◌}
use Rattle.gt_values.specs.Ascii.{closing_brace, digit_zero, hyphen, lower_a, opening_brace, upper_a, upper_f}
use Rattle.uuid.specs.Text.{parsed}

-- the hexadecimal digit of a number below 16, in lower case
abbrev pub digit_of : ℕ → ℕ
digit_of n = if nat_lt n 10 then digit_zero + n else lower_a + (n - 10)

-- two digits for each byte
abbrev pub digits_of : List ℕ → List ℕ
digits_of [] = []
digits_of (byte ∷ bytes) = digit_of (byte / 16) ∷ digit_of (byte % 16) ∷ digits_of bytes

-- thirty-two digits in groups of 8, 4, 4, 4 and 12, with hyphens between them
abbrev pub hyphenated : List ℕ → List ℕ
hyphenated digits =
    take 8 digits ++ hyphen ∷ take 4 (drop 8 digits) ++ hyphen ∷ take 4 (drop 12 digits) ++ hyphen ∷ take 4 (drop 16 digits)
    ++ hyphen ∷ drop 20 digits

-- an identifier as it is printed: hyphenated, in lower case
unfoldable pub printed_id : List ℕ → List ℕ
printed_id id = hyphenated (digits_of id)

-- a letter from A to F in lower case, and any other byte as it is
abbrev pub small : ℕ → ℕ
small c = if nat_le upper_a c && nat_le c upper_f then c + (lower_a - upper_a) else c

-- what stands before the hyphenated form in the form of a URN
abbrev pub urn : List ℕ
urn = codes "urn:uuid:"

-- the text writes the identifier in one of the four forms, with digits of either case
pub record Writes (text id : List ℕ) : Type 0 where
  pub sixteen : length id ≡ 16
  pub bytes : All (λ byte. byte < 256) id
  pub digits : List ℕ
  pub spelled : map small digits ≡ digits_of id
  pub form :
      (text ≡ hyphenated digits)
      ⊎ (text ≡ digits)
      ⊎ (text ≡ opening_brace ∷ hyphenated digits ++ closing_brace ∷ [])
      ⊎ (text ≡ urn ++ hyphenated digits)

-- the text is as long as the URN form and doesn't begin with `urn:uuid:` in lower case
abbrev pub opens_otherwise : List ℕ → Bool
opens_otherwise text = (length text == 45) && not (starts_with nat_eq text urn)

-- no answer, or this one
abbrev pub unless : Bool → Option (List ℕ) → Option (List ℕ)
unless refused answer = if refused then None else answer

-- the identifier that a text stands for
unfoldable pub id_of : List ℕ → Option (List ℕ)
id_of text = unless (opens_otherwise text) (parsed text)

-- a text stands for an identifier exactly where it writes it in one of the four forms
abbrev pub FourForms : Type 0
FourForms = (text id : List ℕ) → (id_of text ≡ Some id) ↔ Writes text id
