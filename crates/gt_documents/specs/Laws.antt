-- What holds of all documents, lists and queries.
use Rattle.std.specs.Option.{option_or}
use Rattle.std.specs.Prelude.{Err, IsOk, List, None, Option, Result, Some, if◌then◌else◌, false, true, ℕ, ◌++◌, ◌<◌, ◌≡◌, ◌∷◌}
use Rattle.std.specs.List.{list_any}
use Rattle.std.specs.Str.{bytes_eq}
use Rattle.form_urlencoded.specs.Form.{raw_pairs}
use Rattle.json.specs.Json as json
use Rattle.serde_json.specs.Data.{Data, Items, Members, no_members, object, put}
use Rattle.serde_json.specs.Find.{get, get_item}
use Rattle.serde_json.specs.Read.{of_json, of_members}
use Rattle.gt_documents.specs.Lists.{items_from}
use Rattle.gt_documents.specs.Members.{given_at}
use Rattle.gt_documents.specs.Place.{Place, in_item}
use Rattle.gt_documents.specs.Query.{decoded, is_named, value_at}

-- what the last of the written members of this name stands for
abbrev pub last_value : List ℕ → json.Members → Option Data
last_value name json.no_members = None
last_value name (json.member key j js) = option_or (last_value name js) (if bytes_eq key name then of_json j else None)

-- an object has at a name what the last of its written members of this name stands for
abbrev pub LastMemberCounts : Type 0
LastMemberCounts = (written : json.Members) (found : Members) (name : List ℕ)
    → of_members written no_members ≡ Some found → get name (object found) ≡ last_value name written

-- a member of another name changes nothing of what stands at a name
abbrev pub OthersChangeNothing : Type 0
OthersChangeNothing = (ms : Members) (other name : List ℕ) (d : Data)
    → bytes_eq other name ≡ false → given_at (object (put other d ms)) name ≡ given_at (object ms) name

-- of the pairs of a name the first gives the value
abbrev pub FirstPairCounts : Type 0
FirstPairCounts = (query name : List ℕ) (before after : List (List ℕ × List ℕ)) (pair : List ℕ × List ℕ)
    → raw_pairs query ≡ before ++ pair ∷ after → list_any (is_named name) before ≡ false → is_named name pair ≡ true
    → value_at name query ≡ Some (decoded pair.1)

-- this place is that of the first bad item of a list
pub record IsFirstBad {A : Type 0} (read : Data → Result A Place) (list : List ℕ) (ds : Items) (place : Place) : Type 0 where
  -- the item's number and value
  pub at : ℕ
  pub value : Data
  pub stands : get_item at ds ≡ Some value
  -- it is bad at this place, which is told within the list
  pub bad : Place
  pub refused : read value ≡ Err bad
  pub told : place ≡ in_item list at bad
  -- each item before it is good
  pub before : (k : ℕ) (d : Data) → k < at → get_item k ds ≡ Some d → IsOk (read d)

-- where a place is told of a list's items, it is that of the first bad one
abbrev pub FirstBadItem : {A : Type 0} → (Data → Result A Place) → Type 0
FirstBadItem read = (list : List ℕ) (ds : Items) (place : Place) → items_from read list 0 ds ≡ Err place → IsFirstBad read list ds place
