-- Objects as tables: each line has the name of a member and its value.
use Rattle.gt_paths.specs.Path.{PathValue, printed_path}
use Rattle.gt_values.specs.IdText.{printed_id}
use Rattle.gt_values.specs.Ident.{made_id}
use Rattle.gt_values.specs.Moment.{printed}
use Rattle.serde_json.specs.Data.{Data, Members, array, no_members, null, number, object, put, string, unsigned}
use Rattle.serde_json.specs.View.{items_of}
use Rattle.std.specs.Prelude.{List, None, Option, Some, [], codes, map, ℕ, ◌++◌, ◌∷◌}

-- a member: its name and its value
abbrev pub Member : Type 0
Member = List ℕ × Data

-- the members with those of the table put in, each at its place in the order of names
unfoldable pub with_members : Members → List Member → Members
with_members ms [] = ms
with_members ms (m ∷ table) = with_members (put m.0 m.1 ms) table

-- the object of the table's members
abbrev pub object_of : List Member → Data
object_of table = object (with_members no_members table)

-- the array of what is written of each row
abbrev pub array_of : {X : Type 0} → (X → Data) → List X → Data
array_of document rows = array (items_of (map document rows))

-- a whole number
abbrev pub whole : ℕ → Data
whole n = number (unsigned n)

-- what is written of the value, or `null` where there is none
abbrev pub or_null : {X : Type 0} → (X → Data) → Option X → Data
or_null written None = null
or_null written (Some x) = written x

-- a printed identifier
abbrev pub id_value : List ℕ → Data
id_value id = string (printed_id id)

-- the printed identifier of the thing of this kind and number
abbrev pub made_value : ℕ → ℕ → ℕ → Data
made_value namespace kind n = id_value (made_id namespace kind n)

-- a printed moment
abbrev pub moment_value : ℕ → Data
moment_value moment = string (printed moment)

-- a printed path
abbrev pub path_value : PathValue → Data
path_value path = string (printed_path path)

-- a path with a last slash: the printed path and `/`, and for the root `/` alone
abbrev pub folder_text : PathValue → List ℕ
folder_text [] = codes "/"
folder_text (name ∷ names) = printed_path (name ∷ names) ++ codes "/"
