-- The text of each kind of field, as bytes. Numbers have the greatest byte first.
use Rattle.std.specs.Int.{Width, to_be_bytes, w16, w32, w64}
use Rattle.std.specs.List.{flat_map}
use Rattle.std.specs.Prelude.{Bool, List, None, Option, Some, [], false, length, true, ℕ, ◌++◌, ◌∷◌}
use Rattle.gt_paths.specs.Path.{PathValue}
use Rattle.gt_types.specs.declared.rule.Principal.{Principal}
use Rattle.gt_types.specs.declared.rule.Principal.TheVariants.{AllAuthenticated, Anonymous, Group, Identity}

-- a number of this width
abbrev pub number_text : Width → ℕ → List ℕ
number_text width n = to_be_bytes width n

-- a number of one byte
abbrev pub byte_text : ℕ → List ℕ
byte_text n = n ∷ []

-- a boolean is 0 or 1
abbrev pub boolean_code : Bool → ℕ
boolean_code false = 0
boolean_code true = 1

-- a boolean in one byte
abbrev pub boolean_text : Bool → List ℕ
boolean_text b = byte_text (boolean_code b)

-- a text is its length, and its bytes
abbrev pub string_text : List ℕ → List ℕ
string_text text = number_text w32 (length text) ++ text

-- a name is its length in one byte, and its bytes
abbrev pub name_text : List ℕ → List ℕ
name_text name = byte_text (length name) ++ name

-- a path is its number of names in two bytes, and each name
abbrev pub path_text : PathValue → List ℕ
path_text path = number_text w16 (length path) ++ flat_map name_text path

-- an option is 0, or 1 and the value
abbrev pub option_text : {X : Type 0} → (X → List ℕ) → Option X → List ℕ
option_text text None = byte_text 0
option_text text (Some x) = byte_text 1 ++ text x

-- a list is its number of members in four bytes, and each member
abbrev pub list_text : {X : Type 0} → (X → List ℕ) → List X → List ℕ
list_text text xs = number_text w32 (length xs) ++ flat_map text xs

-- an identifier is its sixteen bytes
abbrev pub id_text : List ℕ → List ℕ
id_text id = id

-- a digest is its thirty-two bytes
abbrev pub digest_text : List ℕ → List ℕ
digest_text digest = digest

-- a moment is its number of seconds in eight bytes
abbrev pub moment_text : ℕ → List ℕ
moment_text moment = number_text w64 moment

-- a principal is 1 and an identity, 2 and a group, 3 for all that are known, or 4 for all
abbrev pub principal_text : Principal → List ℕ
principal_text (Identity id) = byte_text 1 ++ id_text id
principal_text (Group id) = byte_text 2 ++ id_text id
principal_text AllAuthenticated = byte_text 3
principal_text Anonymous = byte_text 4
