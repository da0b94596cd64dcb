-- The rows at the places of those that pass a test are those that pass it.
use Rattle.std.proofs.Common.{◌≡◌, ◌<◌, ◌∙◌, ℕ, ◌+◌, List, [], ◌∷◌, ◌++◌, Bool, true, false, None, Option, Some, ap, map, sym, append_assoc, arith, cond, if◌then◌else◌, get_or, length, refl, rules, slice_get, take}
use Rattle.std.proofs.lemmas.List.{append-nil, map-append, take_more}
use Rattle.std.proofs.lemmas.List.Elements.{filter_map-append}
use Rattle.std.specs.Option.{option_map}
use Rattle.std.specs.List.{filter_map}
use Rattle.std.specs.Prelude.{filter}
use Rattle.gt_index.specs.Index.{places_from, places_where}

at_length : {X : Type 0} (before rows : List X) (row : X) → slice_get (before ++ row ∷ rows) (length before) ≡ Some row
at_length [] rows row = refl
at_length (x ∷ before) rows row = at_length before rows row

rows_from : {X : Type 0} (test : X → Bool) (before rows : List X) (n : ℕ) → n ≡ length before
    → filter_map (slice_get (before ++ rows)) (places_from n test rows) ≡ filter test rows
rows_from test before [] n is = refl
rows_from {X = X} test before (row ∷ rows) n is =
    let next : n + 1 ≡ length (before ++ row ∷ []) = omega (arith, is, length_more before row) in
    let rest : filter_map (slice_get (before ++ row ∷ rows)) (places_from (n + 1) test rows) ≡ filter test rows =
    rw append_assoc at (rows_from test (before ++ row ∷ []) rows (n + 1) next) in
    let own : slice_get (before ++ row ∷ rows) n ≡ Some row = rw is (at_length before rows row) in
    of_test (test row) own rest
  where
    length_more : {X : Type 0} (xs : List X) (x : X) → length (xs ++ x ∷ []) ≡ length xs + 1
    length_more [] x = omega arith
    length_more (y ∷ xs) x = omega (arith, length_more xs x)

    of_test : (b : Bool) → slice_get (before ++ row ∷ rows) n ≡ Some row
        → filter_map (slice_get (before ++ row ∷ rows)) (places_from (n + 1) test rows) ≡ filter test rows
        → filter_map (slice_get (before ++ row ∷ rows)) (cond b (n ∷ places_from (n + 1) test rows) (places_from (n + 1) test rows)) ≡ (if b then row ∷ filter test rows else filter test rows)
    of_test true own rest = rw (own, rest) refl
    of_test false own rest = rest

pub rows_where : {X : Type 0} (test : X → Bool) (rows : List X) → filter_map (slice_get rows) (places_where test rows) ≡ filter test rows
rows_where test rows = rows_from test [] rows 0 refl

one_more : {X : Type 0} (h : ℕ → Option X) (places : List ℕ) (i : ℕ) → i < length places
    → filter_map h (take (i + 1) places) ≡ filter_map h (take i places) ++ filter_map h (get_or places i 0 ∷ [])
one_more h places i within =
    ap (filter_map h) (take_more places i 0 within) ∙ filter_map-append h (take i places) (get_or places i 0 ∷ [])

-- a place more that has a row
pub row_pushed : {X R : Type 0} (now : R → X) (h : ℕ → Option X) (places : List ℕ) (i : ℕ) (before : List R) (row : R) (found : Option R) → i < length places
    → option_map now found ≡ h (get_or places i 0) → found ≡ Some row → map now before ≡ filter_map h (take i places)
    → map now (before ++ row ∷ []) ≡ filter_map h (take (i + 1) places)
row_pushed now h places i before row found within same is kept =
    let here : h (get_or places i 0) ≡ Some (now row) = sym same ∙ ap (option_map now) is in
    map-append now before (row ∷ []) ∙ (ap (λ t. t ++ now row ∷ []) kept ∙ (ap (λ t. filter_map h (take i places) ++ t) (one (get_or places i 0) here) ∙ sym (one_more h places i within)))
  where
    one : (place : ℕ) → h place ≡ Some (now row) → now row ∷ [] ≡ filter_map h (place ∷ [])
    one place e = rw e refl

-- a place more that has none
pub row_passed : {X R : Type 0} (now : R → X) (h : ℕ → Option X) (places : List ℕ) (i : ℕ) (before : List R) (found : Option R) → i < length places
    → option_map now found ≡ h (get_or places i 0) → ((row : R) → found ≡ Some row → ⊥) → map now before ≡ filter_map h (take i places)
    → map now before ≡ filter_map h (take (i + 1) places)
row_passed {X = X} {R = R} now h places i before found within same isnt kept =
    kept ∙ (sym (append-nil (filter_map h (take i places))) ∙ (ap (λ t. filter_map h (take i places) ++ t) (none found same isnt) ∙ sym (one_more h places i within)))
  where
    none : (o : Option R) → option_map now o ≡ h (get_or places i 0) → ((row : R) → o ≡ Some row → ⊥) → [] ≡ filter_map h (get_or places i 0 ∷ [])
    none None e never = rw (sym e) refl
    none (Some row) e never = absurd (never row refl)
