-- Reading each kind of field from the front of a list of bytes.
use Rattle.gt_paths.specs.Name.{is_name}
use Rattle.gt_paths.specs.Path.{PathValue, is_short_path}
use Rattle.gt_records.specs.Reading.{Form, alone, byte_at, bytes_at, checked, coded_at, led, mapped, number_at, of_form, times_at}
use Rattle.gt_types.specs.declared.rule.Principal.{Principal}
use Rattle.gt_types.specs.declared.rule.Principal.TheVariants.{AllAuthenticated, Anonymous, Group, Identity}
use Rattle.gt_values.specs.Forms.{is_moment}
use Rattle.gt_values.specs.Grammar.{Read}
use Rattle.std.specs.Int.{w16, w32, w64}
use Rattle.std.specs.Prelude.{Bool, List, None, Option, Some, [], false, suc, true, zero, ℕ, ◌∷◌}
use Rattle.std.specs.Str.{is_utf8}

-- 0 stands for false, 1 for true
abbrev pub boolean_of : ℕ → Option Bool
boolean_of zero = Some false
boolean_of (suc zero) = Some true
boolean_of (suc (suc n)) = None

-- a boolean in one byte
unfoldable pub boolean_at : List ℕ → Read Bool
boolean_at = coded_at boolean_of

-- so many bytes of UTF-8
unfoldable pub utf8_at : ℕ → List ℕ → Read (List ℕ)
utf8_at count = checked is_utf8 (bytes_at count)

-- a text: its length in four bytes, and its bytes
unfoldable pub string_at : List ℕ → Read (List ℕ)
string_at = led (number_at w32) utf8_at

-- a name: its length in one byte, and its bytes
unfoldable pub name_at : List ℕ → Read (List ℕ)
name_at = led byte_at (λ len. checked is_name (utf8_at len))

-- a path: its number of names in two bytes, and each name
unfoldable pub path_at : List ℕ → Read PathValue
path_at = led (number_at w16) (λ count. checked is_short_path (times_at name_at count))

-- a value, if it is there
abbrev pub value_at : {X : Type 0} → (List ℕ → Read X) → Bool → List ℕ → Read (Option X)
value_at reader false bytes = Some (None, bytes)
value_at reader true bytes = mapped Some reader bytes

-- an option: whether the value is there, and the value
unfoldable pub option_at : {X : Type 0} → (List ℕ → Read X) → List ℕ → Read (Option X)
option_at reader = led boolean_at (value_at reader)

-- a list: its number of members in four bytes, and each member
unfoldable pub list_at : {X : Type 0} → (List ℕ → Read X) → List ℕ → Read (List X)
list_at reader = led (number_at w32) (times_at reader)

-- an identifier
unfoldable pub id_at : List ℕ → Read (List ℕ)
id_at = bytes_at 16

-- a digest
unfoldable pub digest_at : List ℕ → Read (List ℕ)
digest_at = bytes_at 32

-- a moment: its number of seconds in eight bytes
unfoldable pub moment_at : List ℕ → Read ℕ
moment_at = checked is_moment (number_at w64)

-- the forms of a principal
abbrev pub principal_forms : List (Form Principal)
principal_forms =
    (record { number = 1; reader = mapped Identity id_at })
    ∷ (record { number = 2; reader = mapped Group id_at })
    ∷ (record { number = 3; reader = alone AllAuthenticated })
    ∷ (record { number = 4; reader = alone Anonymous }) ∷ []

-- a principal, by the form whose number stands first
unfoldable pub principal_at : List ℕ → Read Principal
principal_at = led byte_at (of_form principal_forms)
