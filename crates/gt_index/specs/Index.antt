-- Indexes: the places of some of the rows, in rising order of the rows' keys.

use Rattle.std.specs.List.{list_all, list_any}
use Rattle.std.specs.Option.{option_cmp, option_map, option_map_or}
use Rattle.std.specs.Ordering.{is_eq, is_lt, nat_cmp, ordering_then}
use Rattle.std.specs.Prelude.{Bool, IsTrue, List, MatchOption, Option, [], cond, false, not, slice_get, ℕ, ◌&&◌, ◌+◌, ◌==◌, ◌≡◌, ◌≢◌, ◌∷◌}
use Rattle.std.specs.declared.cmp.Ordering.{Ordering}

-- the key of the row at the place
abbrev pub key_at : {R K : Type 0} → (R → K) → List R → ℕ → Option K
key_at key rows place = option_map key (slice_get rows place)

-- whether there is a row at the place that passes
abbrev pub passes_at : {R : Type 0} → (R → Bool) → List R → ℕ → Bool
passes_at test rows place = option_map_or test (slice_get rows place) false

-- whether the place is one of these
abbrev pub is_one_of : ℕ → List ℕ → Bool
is_one_of place places = list_any (λ other. other == place) places

-- whether the first place comes before the second: by the keys of their rows, and where these tie by themselves
abbrev pub is_before : {K : Type 0} → (K → K → Ordering) → (ℕ → Option K) → ℕ → ℕ → Bool
is_before cmp key a b = is_lt (ordering_then (option_cmp cmp (key a) (key b)) (nat_cmp a b))

-- each of the places comes before those behind it
abbrev pub Rises : {K : Type 0} → (K → K → Ordering) → (ℕ → Option K) → List ℕ → Type 0
Rises cmp key [] = Unit {0}
Rises cmp key (place ∷ places) = IsTrue (list_all (is_before cmp key place) places) × Rises cmp key places

-- the places are those of the rows that are kept, each once, in rising order
pub record IsIndex {R K : Type 0} (cmp : K → K → Ordering) (key : R → K) (keeps : R → Bool) (rows : List R) (places : List ℕ) : Type 0 where
  pub rising : Rises cmp (key_at key rows) places
  pub members : (place : ℕ) → is_one_of place places ≡ passes_at keeps rows place

-- the places, from this one on, of the rows that pass, in order
abbrev pub places_from : {R : Type 0} → ℕ → (R → Bool) → List R → List ℕ
places_from place test [] = []
places_from place test (row ∷ rows) =
    cond (test row) (place ∷ places_from (place + 1) test rows) (places_from (place + 1) test rows)

-- the places of the rows that pass, in order
abbrev pub places_where : {R : Type 0} → (R → Bool) → List R → List ℕ
places_where test rows = places_from 0 test rows

-- whether the row has the key
abbrev pub has_key : {R K : Type 0} → (K → K → Ordering) → (R → K) → K → R → Bool
has_key cmp key k row = is_eq (cmp (key row) k)

-- whether the row's key is at least this
abbrev pub is_from : {R K : Type 0} → (K → K → Ordering) → (R → K) → K → R → Bool
is_from cmp key k row = not (is_lt (cmp (key row) k))

-- the run has the places of the kept rows with this key, in order
abbrev pub IsRun : {R K : Type 0} → (K → K → Ordering) → (R → K) → List R → List ℕ → K → List ℕ → Type 0
IsRun {R} cmp key rows places k run =
    (keeps : R → Bool) → IsIndex cmp key keeps rows places → run ≡ places_where (λ row. keeps row && has_key cmp key k row) rows

-- the place has a row that passes, and comes before each other that has one
pub record IsFirst {R K : Type 0} (cmp : K → K → Ordering) (key : R → K) (test : R → Bool) (rows : List R) (place : ℕ) : Type 0 where
  pub passes : IsTrue (passes_at test rows place)
  pub first : (other : ℕ) → IsTrue (passes_at test rows other) → other ≢ place → IsTrue (is_before cmp (key_at key rows) place other)

-- the first of the kept rows whose key is at least this, if there is one
abbrev pub IsFirstFrom : {R K : Type 0} → (K → K → Ordering) → (R → K) → List R → List ℕ → K → Option ℕ → Type 0
IsFirstFrom {R} cmp key rows places k found =
    (keeps : R → Bool) → IsIndex cmp key keeps rows places
    → MatchOption found ((place : ℕ) → passes_at (λ row. keeps row && is_from cmp key k row) rows place ≡ false)
    (IsFirst cmp key (λ row. keeps row && is_from cmp key k row) rows)

-- the rows differ at this place alone, and there in no key that was kept
pub record DiffersAt {R K : Type 0} (key : R → K) (keeps : R → Bool) (place : ℕ) (before after : List R) : Type 0 where
  pub others : (other : ℕ) → other ≢ place → slice_get after other ≡ slice_get before other
  pub same_key : IsTrue (passes_at keeps before place) → key_at key after place ≡ key_at key before place

-- the new places are an index of the rows, where the old ones were before the row at this place came or changed; the row
-- is kept now, or isn't
abbrev pub IsFiled : {R K : Type 0} → (K → K → Ordering) → (R → K) → Bool → ℕ → List R → List ℕ → List ℕ → Type 0
IsFiled {R} cmp key kept place rows old new =
    (keeps : R → Bool) (before : List R) → IsIndex cmp key keeps before old → DiffersAt key keeps place before rows
    → passes_at keeps rows place ≡ kept → IsIndex cmp key keeps rows new
