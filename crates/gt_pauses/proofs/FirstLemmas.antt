-- The first row that pauses an act, by its place.
use Rattle.std.proofs.Common.{Bool, List, None, Option, Some, [], ap, arith, cond, false, find, is_none, min, not, refl, slice_get, suc, sym, true, zero, ℕ, ◌&&◌, ◌+◌, ◌<◌, ◌∙◌, ◌∷◌, ◌≡◌, ◌≢◌, ◌≤◌, ◌||◌}
use Rattle.std.proofs.lemmas.Bool.{and_from, and_parts, and_right, false_from_ne_true, le-ltb, lt-ltb, ltb-true}
use Rattle.std.specs.Option.{option_cmp, option_eq, option_map, option_map_or}
use Rattle.std.specs.Cmp.{IsTotalOrder, tied_back, unsigned_ties}
use Rattle.std.specs.Ordering.{is_eq, is_lt, nat_cmp, ordering_reverse, ordering_then}
use Rattle.std.specs.Prelude.{IfSome, nat_eq, nat_lt}
use Rattle.std.specs.Str.{bytes_eq}
use Rattle.std.specs.declared.cmp.Ordering.{Ordering}
use Rattle.std.specs.declared.cmp.Ordering.TheVariants.{Equal, Greater, Less}
use Rattle.gt_index.specs.Index.{IsFirst, has_key, is_from, passes_at, places_from, places_where}
use Rattle.gt_pauses.specs.Indexed.{IsNumberedFrom, NoneAfter, is_live_with, is_row_for, lesser}
use Rattle.gt_pauses.specs.Paused.{has_act, pauses}
use Rattle.gt_pauses.specs.Rule.{is_live_pause}
use Rattle.gt_pauses.specs.declared.row.PauseAct.{PauseAct}
use Rattle.gt_pauses.specs.declared.row.PauseRow.{PauseRow}
use Rattle.gt_values.specs.Life.{is_alive}

pub eq_then : (r s : Ordering) → is_eq (ordering_then r s) ≡ (is_eq r && is_eq s)
eq_then Less s = refl
eq_then Equal s = refl
eq_then Greater s = refl

pub places_agree : (n : ℕ) (p q : PauseRow → Bool) (rows : List PauseRow) → ((row : PauseRow) → p row ≡ q row) → places_from n p rows ≡ places_from n q rows
places_agree n p q [] same = refl
places_agree n p q (row ∷ rows) same = rw (same row, places_agree (n + 1) p q rows same) refl

and_assoc : (a b c : Bool) → (a && (b && c)) ≡ ((a && b) && c)
and_assoc true b c = refl
and_assoc false b c = refl

-- a row with the key, where its order of identities ties just the same
pub key_is : (order : Option (List ℕ) → Option (List ℕ) → Ordering) → ((x y : Option (List ℕ)) → is_eq (order x y) ≡ option_eq bytes_eq x y)
    → (act : PauseAct) (collection : ℕ) (identity : Option (List ℕ)) (row : PauseRow)
    → (is_live_with act row && is_eq (ordering_then (nat_cmp row.spec.collection collection) (order row.spec.identity identity)))
    ≡ is_row_for act collection identity row
key_is order ties act collection identity row =
    ap (λ b. is_live_with act row && b)
    (eq_then (nat_cmp row.spec.collection collection) (order row.spec.identity identity)
    ∙ ap (λ b. b && is_eq (order row.spec.identity identity)) (sym (unsigned_ties row.spec.collection collection))
    ∙ ap (λ b. nat_eq row.spec.collection collection && b) (ties row.spec.identity identity))
    ∙ and_assoc (is_live_with act row) (nat_eq row.spec.collection collection) (option_eq bytes_eq row.spec.identity identity)

-- the first place whose row passes, none before it
first_place : {R : Type 0} (n i place : ℕ) (test : R → Bool) (rows : List R) → place ≡ n + i → passes_at test rows i ≡ true
    → ((j : ℕ) → j < i → passes_at test rows j ≡ false) → slice_get (places_from n test rows) 0 ≡ Some place
first_place n i place test [] e passes others = cc
first_place n zero place test (row ∷ rows) e passes others =
    let own : n ≡ place = omega arith in
    rw passes (ap Some own)
first_place n (suc i) place test (row ∷ rows) e passes others =
    rw (others 0 (omega arith)) (first_place (n + 1) i place test rows (omega arith) passes (λ j below. others (suc j) (omega arith)))

no_place : {R : Type 0} (n : ℕ) (test : R → Bool) (rows : List R) → ((j : ℕ) → passes_at test rows j ≡ false) → slice_get (places_from n test rows) 0 ≡ None
no_place n test [] others = refl
no_place n test (row ∷ rows) others = rw (others 0) (no_place (n + 1) test rows (λ j. others (suc j)))

eq_is : (r : Ordering) → is_eq r ≡ true → r ≡ Equal
eq_is Less e = cc
eq_is Equal e = refl
eq_is Greater e = cc

tied_from : (r : Ordering) → is_eq r ≡ true → not (is_lt r) ≡ true
tied_from Less e = cc
tied_from Equal e = refl
tied_from Greater e = refl

not_before : (r : Ordering) (a b : ℕ) → not (is_lt r) ≡ true → is_eq r ≡ false → is_lt (ordering_then r (nat_cmp a b)) ≡ false
not_before Less a b from other = cc
not_before Equal a b from other = cc
not_before Greater a b from other = refl

less_is : (a b : ℕ) → is_lt (nat_cmp a b) ≡ true → a < b
less_is a b h = ltb-true a b (of_test (nat_lt a b) (nat_eq a b) h)
  where
    of_test : (s t : Bool) → is_lt (cond s Less (cond t Equal Greater)) ≡ true → s ≡ true
    of_test true t e = refl
    of_test false true e = cc
    of_test false false e = cc

module _ {R K : Type 0} (cmp : K → K → Ordering) (o : IsTotalOrder cmp) (key : R → K) (k : K) (keeps : R → Bool) where
  abbrev has : R → Bool
  has row = keeps row && has_key cmp key k row

  abbrev from : R → Bool
  from row = keeps row && is_from cmp key k row

  from_has : (found : Option R) → option_map_or has found false ≡ true → option_map_or from found false ≡ true
  from_has None e = e
  from_has (Some row) e =
      let parts = and_parts (keeps row) (has_key cmp key k row) e in
      and_from (keeps row) (is_from cmp key k row) parts.0 (tied_from (cmp (key row) k) parts.1)

  -- of two rows with the key, the one at the lesser place comes before the other
  tied_before : (row : R) (found : Option R) (a b : ℕ) → is_eq (cmp (key row) k) ≡ true → option_map_or has found false ≡ true
      → is_lt (ordering_then (option_cmp cmp (Some (key row)) (option_map key found)) (nat_cmp a b)) ≡ true → a < b
  tied_before row None a b own passes before = cc
  tied_before row (Some other) a b own passes before =
      let parts = and_parts (keeps other) (has_key cmp key k other) passes in
      let tied : cmp (key row) (key other) ≡ Equal =
      o.congr (key row) k (key other) (eq_is (cmp (key row) k) own) ∙ tied_back o (key other) k (eq_is (cmp (key other) k) parts.1) in
      less_is a b (sym (ap (λ r. is_lt (ordering_then r (nat_cmp a b))) tied) ∙ before)

  -- a row above the key comes before none with the key
  above_before : (row : R) (found : Option R) (a b : ℕ) → not (is_lt (cmp (key row) k)) ≡ true → is_eq (cmp (key row) k) ≡ false
      → option_map_or has found false ≡ true → is_lt (ordering_then (option_cmp cmp (Some (key row)) (option_map key found)) (nat_cmp a b)) ≡ false
  above_before row None a b above differs passes = cc
  above_before row (Some other) a b above differs passes =
      let parts = and_parts (keeps other) (has_key cmp key k other) passes in
      let same : cmp (key row) (key other) ≡ cmp (key row) k =
      o.antisymm (key row) (key other)
      ∙ ap ordering_reverse (o.congr (key other) k (key row) (eq_is (cmp (key other) k) parts.1))
      ∙ sym (o.antisymm (key row) k) in
      ap (λ r. is_lt (ordering_then r (nat_cmp a b))) same ∙ not_before (cmp (key row) k) a b above differs

  -- no row has the key where none has one that is at least it
  pub first_none : (rows : List R) → ((place : ℕ) → passes_at from rows place ≡ false) → slice_get (places_where has rows) 0 ≡ None
  first_none rows none =
      no_place 0 has rows
      (λ j. false_from_ne_true (passes_at has rows j) (λ passes. let other = from_has (slice_get rows j) passes in let miss = none j in cc))

  -- the first row that isn't below the key is the first with the key, if it has the key
  pub first_own : (rows : List R) (place : ℕ) (row : R) → IsFirst cmp key from rows place → slice_get rows place ≡ Some row
      → is_eq (cmp (key row) k) ≡ true → slice_get (places_where has rows) 0 ≡ Some place
  first_own rows place row is found own =
      let parts = and_parts (keeps row) (is_from cmp key k row) (rw found at is.passes) in
      let passes : passes_at has rows place ≡ true = rw found (and_from (keeps row) (has_key cmp key k row) parts.0 own) in
      first_place 0 place place has rows (omega arith) passes
      (λ j below.
      false_from_ne_true (passes_at has rows j)
      (λ hit.
      let before = is.first j (from_has (slice_get rows j) hit) (λ e. omega arith) in
      let less : place < j = tied_before row (slice_get rows j) place j own hit (rw found at before) in
      omega arith))

  -- no row has the key, if the first that isn't below it has another
  pub first_other : (rows : List R) (place : ℕ) (row : R) → IsFirst cmp key from rows place → slice_get rows place ≡ Some row
      → is_eq (cmp (key row) k) ≡ false → slice_get (places_where has rows) 0 ≡ None
  first_other rows place row is found differs =
      let parts = and_parts (keeps row) (is_from cmp key k row) (rw found at is.passes) in
      no_place 0 has rows
      (λ j.
      false_from_ne_true (passes_at has rows j)
      (λ hit.
      let apart : j ≢ place = λ e.
      let own : passes_at has rows place ≡ true = rw e at hit in
      let two = and_parts (keeps row) (has_key cmp key k row) (rw found at own) in
      cc in
      let before = is.first j (from_has (slice_get rows j) hit) apart in
      let none = above_before row (slice_get rows j) place j parts.1 differs hit in
      let some : is_lt (ordering_then (option_cmp cmp (Some (key row)) (option_map key (slice_get rows j))) (nat_cmp place j)) ≡ true = rw found at before in
      cc))

  -- the first has a row
  pub first_there : (rows : List R) (place : ℕ) → IsFirst cmp key from rows place → slice_get rows place ≡ None → ⊥
  first_there rows place is none = let passes = rw none at is.passes in cc

-- no place is before the first
first_from-le : (n : ℕ) (p : PauseRow → Bool) (rows : List PauseRow) → IfSome (slice_get (places_from n p rows) 0) (λ place. n ≤ place)
first_from-le n p [] = tt
first_from-le n p (row ∷ rows) = of_test (p row) (first_from-le (n + 1) p rows)
  where
    weaker : (found : Option ℕ) → IfSome found (λ place. n + 1 ≤ place) → IfSome found (λ place. n ≤ place)
    weaker None le = tt
    weaker (Some place) le = omega arith

    of_test : (b : Bool) → IfSome (slice_get (places_from (n + 1) p rows) 0) (λ place. n + 1 ≤ place)
        → IfSome (slice_get (cond b (n ∷ places_from (n + 1) p rows) (places_from (n + 1) p rows)) 0) (λ place. n ≤ place)
    of_test true rest = omega arith
    of_test false rest = weaker (slice_get (places_from (n + 1) p rows) 0) rest

lesser_left : (n : ℕ) (found : Option ℕ) → IfSome found (λ place. n ≤ place) → lesser (Some n) found ≡ Some n
lesser_left n None le = refl
lesser_left n (Some place) le = let e : min n place ≡ n = omega arith in ap Some e

lesser_right : (n : ℕ) (found : Option ℕ) → IfSome found (λ place. n ≤ place) → lesser found (Some n) ≡ Some n
lesser_right n None le = refl
lesser_right n (Some place) le = let e : min place n ≡ n = omega arith in ap Some e

weaker : (n : ℕ) (found : Option ℕ) → IfSome found (λ place. n + 1 ≤ place) → IfSome found (λ place. n ≤ place)
weaker n None le = tt
weaker n (Some place) le = omega arith

-- the first that passes one of two tests is the lesser of the first that pass each
pub first_or : (n : ℕ) (p q : PauseRow → Bool) (rows : List PauseRow)
    → slice_get (places_from n (λ row. p row || q row) rows) 0 ≡ lesser (slice_get (places_from n p rows) 0) (slice_get (places_from n q rows) 0)
first_or n p q [] = refl
first_or n p q (row ∷ rows) =
    of_tests (p row) (q row) (first_or (n + 1) p q rows) (weaker n (slice_get (places_from (n + 1) p rows) 0) (first_from-le (n + 1) p rows))
    (weaker n (slice_get (places_from (n + 1) q rows) 0) (first_from-le (n + 1) q rows))
  where
    own : lesser (Some n) (Some n) ≡ Some n
    own = let e : min n n ≡ n = omega arith in ap Some e

    of_tests : (b c : Bool)
        → slice_get (places_from (n + 1) (λ r. p r || q r) rows) 0 ≡ lesser (slice_get (places_from (n + 1) p rows) 0) (slice_get (places_from (n + 1) q rows) 0)
        → IfSome (slice_get (places_from (n + 1) p rows) 0) (λ place. n ≤ place) → IfSome (slice_get (places_from (n + 1) q rows) 0) (λ place. n ≤ place)
        → slice_get (cond (b || c) (n ∷ places_from (n + 1) (λ r. p r || q r) rows) (places_from (n + 1) (λ r. p r || q r) rows)) 0
        ≡ lesser (slice_get (cond b (n ∷ places_from (n + 1) p rows) (places_from (n + 1) p rows)) 0) (slice_get (cond c (n ∷ places_from (n + 1) q rows) (places_from (n + 1) q rows)) 0)
    of_tests true true rest left right = sym own
    of_tests true false rest left right = sym (lesser_left n (slice_get (places_from (n + 1) q rows) 0) right)
    of_tests false true rest left right = sym (lesser_right n (slice_get (places_from (n + 1) p rows) 0) left)
    of_tests false false rest left right = rest

-- the number of the first row that passes, by its place
pub number_of_first : (n : ℕ) (p : PauseRow → Bool) (rows : List PauseRow) → IsNumberedFrom (n + 1) rows
    → option_map (λ place. place + 1) (slice_get (places_from n p rows) 0) ≡ option_map (λ row. row.number) (find p rows)
number_of_first n p [] is = refl
number_of_first n p (row ∷ rows) is = of_test (p row) (number_of_first (n + 1) p rows is.1)
  where
    of_test : (b : Bool) → option_map (λ place. place + 1) (slice_get (places_from (n + 1) p rows) 0) ≡ option_map (λ r. r.number) (find p rows)
        → option_map (λ place. place + 1) (slice_get (cond b (n ∷ places_from (n + 1) p rows) (places_from (n + 1) p rows)) 0) ≡ option_map (λ r. r.number) (cond b (Some row) (find p rows))
    of_test true rest = ap Some (sym is.0)
    of_test false rest = rest

-- at an event after the last change the live rows are alive
alive_is : (seq last born : ℕ) (ended : Option ℕ) → last < seq → born ≤ last → IfSome ended (λ e. e ≤ last) → is_alive seq born ended ≡ is_none ended
alive_is seq last born None coming made over = lt-ltb born seq (omega arith)
alive_is seq last born (Some e) coming made over = and_right (nat_lt born seq) (nat_lt seq e) (le-ltb seq e (omega arith))

for_is : (identity : List ℕ) (named : Option (List ℕ)) → option_map_or (λ id. bytes_eq id identity) named true ≡ (option_eq bytes_eq named (Some identity) || option_eq bytes_eq named None)
for_is identity None = refl
for_is identity (Some id) = sym (or_false (bytes_eq id identity))
  where
    or_false : (b : Bool) → (b || false) ≡ b
    or_false true = refl
    or_false false = refl

regroup : (a l c h x y : Bool) → a ≡ l → (((a && c) && h) && (x || y)) ≡ ((((l && h) && c) && x) || (((l && h) && c) && y))
regroup true true true true true y e = refl
regroup true true true true false y e = refl
regroup true true true false x y e = refl
regroup true true false true x y e = refl
regroup true true false false x y e = refl
regroup true false c h x y e = cc
regroup false true c h x y e = cc
regroup false false c h x y e = refl

pauses_is : (seq last : ℕ) (identity : List ℕ) (collection : ℕ) (act : PauseAct) (row : PauseRow) → last < seq → row.born ≤ last → IfSome row.ended (λ e. e ≤ last)
    → pauses seq identity collection act row ≡ (is_row_for act collection (Some identity) row || is_row_for act collection None row)
pauses_is seq last identity collection act row coming made over =
    ap (λ b. ((is_alive seq row.born row.ended && nat_eq row.spec.collection collection) && has_act act row.spec) && b) (for_is identity row.spec.identity)
    ∙ regroup (is_alive seq row.born row.ended) (is_live_pause row) (nat_eq row.spec.collection collection) (has_act act row.spec)
    (option_eq bytes_eq row.spec.identity (Some identity)) (option_eq bytes_eq row.spec.identity None)
    (alive_is seq last row.born row.ended coming made over)

places_are : (n seq last : ℕ) (identity : List ℕ) (collection : ℕ) (act : PauseAct) (rows : List PauseRow) → last < seq → NoneAfter last rows
    → places_from n (pauses seq identity collection act) rows
    ≡ places_from n (λ row. is_row_for act collection (Some identity) row || is_row_for act collection None row) rows
places_are n seq last identity collection act [] coming none = refl
places_are n seq last identity collection act (row ∷ rows) coming none =
    rw (pauses_is seq last identity collection act row coming none.0 none.1, places_are (n + 1) seq last identity collection act rows coming none.2) refl

-- what two searches give
pub paused_is : (seq last : ℕ) (identity : List ℕ) (collection : ℕ) (act : PauseAct) (rows : List PauseRow) → last < seq → NoneAfter last rows → IsNumberedFrom 1 rows
    → option_map (λ place. place + 1)
    (lesser (slice_get (places_where (is_row_for act collection (Some identity)) rows) 0) (slice_get (places_where (is_row_for act collection None) rows) 0))
    ≡ option_map (λ row. row.number) (find (pauses seq identity collection act) rows)
paused_is seq last identity collection act rows coming none numbers =
    ap (option_map (λ place. place + 1))
    (sym (first_or 0 (is_row_for act collection (Some identity)) (is_row_for act collection None) rows)
    ∙ ap (λ places. slice_get places 0) (sym (places_are 0 seq last identity collection act rows coming none)))
    ∙ number_of_first 0 (pauses seq identity collection act) rows numbers
