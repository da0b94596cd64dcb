-- The members of an object, by the value that serde_json reads.
use Rattle.std.specs.Option.{option_map_or}
use Rattle.std.specs.Prelude.{Bool, Err, List, None, Ok, Option, Result, Some, [], false, if◌then◌else◌, is_none, ok_or, option_and_then, option_map, true, unwrap_or, ℕ}
use Rattle.std.specs.Str.{bytes_eq, is_utf8}
use Rattle.serde_json.specs.Data.{Data, null, object}
use Rattle.serde_json.specs.Find.{as_bool, as_str, get}
use Rattle.serde_json.specs.Read.{read}
use Rattle.gt_paths.specs.Path.{PathValue}
use Rattle.gt_values.specs.Results.{◌>>=◌}
use Rattle.gt_documents.specs.Place.{Place, member_place}
use Rattle.gt_documents.specs.Reading.{unless_not}
use Rattle.gt_documents.specs.Values as values
use Rattle.gt_documents.specs.declared.values.TextLimit.{TextLimit}

-- bytes that are no UTF-8 are no JSON; what nests deeper than 127 isn't read either
abbrev pub value_of : List ℕ → Option Data
value_of bytes = if is_utf8 bytes then read bytes else None

-- whether the value is an object
abbrev pub is_object : Data → Bool
is_object (object ms) = true
is_object _ = false

-- the value is an object
unfoldable pub object_at : Data → Result Unit Place
object_at d = unless_not (is_object d) []

-- the object that a body is
abbrev pub object_of : List ℕ → Result Data Place
object_of body = ok_or (value_of body) [] >>= λ d. object_at d >>= λ _. Ok d

-- null is no value
abbrev pub valued : Data → Option Data
valued null = None
valued d = Some d

-- what stands at the name: nothing, null, or a value
unfoldable pub given_at : Data → List ℕ → Option (Option Data)
given_at d name = option_map valued (get name d)

-- the member of this name; null counts as absent
unfoldable pub member_of : Data → List ℕ → Option Data
member_of d name = option_and_then valued (get name d)

-- what a member stands for; it is bad where it isn't there, or stands for nothing
abbrev pub needed : {A : Type 0} → (Data → Option A) → Data → List ℕ → Result A Place
needed meaning d name = ok_or (option_and_then meaning (member_of d name)) (member_place name)

-- what a member stands for, if it is there; it is bad where it stands for nothing
abbrev pub if_given : {A : Type 0} → (Data → Option A) → List ℕ → Option Data → Result (Option A) Place
if_given meaning name None = Ok None
if_given meaning name (Some d) = option_map_or (λ a. Ok (Some a)) (meaning d) (Err (member_place name))

abbrev pub optional : {A : Type 0} → (Data → Option A) → Data → List ℕ → Result (Option A) Place
optional meaning d name = if_given meaning name (member_of d name)

-- the text that a member is
unfoldable pub word_at : Data → List ℕ → Option (List ℕ)
word_at d name = option_and_then as_str (member_of d name)

-- the member is this text
abbrev pub is_text : List ℕ → Option (List ℕ) → Bool
is_text text None = false
is_text text (Some found) = bytes_eq found text

unfoldable pub constant_at : List ℕ → Data → List ℕ → Result Unit Place
constant_at text d name = unless_not (is_text text (word_at d name)) (member_place name)

-- the member is this text or absent
unfoldable pub default_at : List ℕ → Data → List ℕ → Result Unit Place
default_at text d name = option_map_or (λ _. constant_at text d name) (member_of d name) (Ok tt)

-- the member is absent
unfoldable pub absent_at : Data → List ℕ → Result Unit Place
absent_at d name = unless_not (is_none (member_of d name)) (member_place name)

-- an identifier; the same, if it is there
unfoldable pub id_at : Data → List ℕ → Result (List ℕ) Place
id_at d name = needed values.id_of d name

unfoldable pub id_if : Data → List ℕ → Result (Option (List ℕ)) Place
id_if d name = optional values.id_of d name

-- a boolean, if it is there
unfoldable pub flag_at : Data → List ℕ → Result (Option Bool) Place
flag_at d name = optional as_bool d name

-- a boolean, which is this one where it is absent
abbrev pub switch_at : Bool → Data → List ℕ → Result Bool Place
switch_at usual d name = flag_at d name >>= λ flag. Ok (unwrap_or flag usual)

-- a boolean that isn't true, if it is there
abbrev pub unset_at : Data → List ℕ → Result (Option Bool) Place
unset_at d name = flag_at d name >>= λ flag. if unwrap_or flag false then Err (member_place name) else Ok flag

-- a text within its limit, a whole number in its range, a moment, if they are there
unfoldable pub text_if : TextLimit → Data → List ℕ → Result (Option (List ℕ)) Place
text_if limit d name = optional (values.text_of limit) d name

unfoldable pub number_if : ℕ → ℕ → Data → List ℕ → Result (Option ℕ) Place
number_if least most d name = optional (values.number_of least most) d name

unfoldable pub moment_if : Data → List ℕ → Result (Option ℕ) Place
moment_if d name = optional values.moment_of d name

-- a path, where `~` is the home folder
unfoldable pub path_at : PathValue → Data → List ℕ → Result PathValue Place
path_at home d name = needed (values.path_of home) d name
