-- The items of a list, each read alike.
use Rattle.std.specs.Prelude.{Bool, Err, List, None, Ok, Option, Result, Some, [], if◌then◌else◌, nat_le, ℕ, ◌&&◌, ◌+◌, ◌∷◌}
use Rattle.serde_json.specs.Data.{Data, Items, array, item, no_items}
use Rattle.serde_json.specs.Events.{items_len}
use Rattle.gt_values.specs.Results.{◌>>=◌}
use Rattle.gt_documents.specs.Members.{member_of}
use Rattle.gt_documents.specs.Place.{Place, in_item, member_place}

-- what an item is read as, its bad place within the list
abbrev pub within : {A : Type 0} → List ℕ → ℕ → Result A Place → Result A Place
within list at (Ok a) = Ok a
within list at (Err place) = Err (in_item list at place)

-- the items, numbered on from this one
abbrev pub items_from : {A : Type 0} → (Data → Result A Place) → List ℕ → ℕ → Items → Result (List A) Place
items_from read list at no_items = Ok []
items_from read list at (item d ds) =
    within list at (read d) >>= λ a. items_from read list (at + 1) ds >>= λ rest. Ok (a ∷ rest)

-- the items of a list; an absent one has none
abbrev pub listed : Option Data → Option Items
listed None = Some no_items
listed (Some (array ds)) = Some ds
listed (Some _) = None

-- whether there are so many
abbrev pub is_count : ℕ → ℕ → Items → Bool
is_count least most ds = nat_le least (items_len ds) && nat_le (items_len ds) most

abbrev pub items_of : {A : Type 0} → (Data → Result A Place) → List ℕ → ℕ → ℕ → Option Items → Result (List A) Place
items_of read list least most None = Err (member_place list)
items_of read list least most (Some ds) = if is_count least most ds then items_from read list 0 ds else Err (member_place list)

-- a list of so many items, of which the first bad one is told
unfoldable pub items_at : {A : Type 0} → (Data → Result A Place) → ℕ → ℕ → Data → List ℕ → Result (List A) Place
items_at read least most d list = items_of read list least most (listed (member_of d list))
