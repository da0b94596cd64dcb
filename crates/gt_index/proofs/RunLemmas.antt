-- What a search in an index finds.
use Rattle.std.proofs.Common.{Bool, List, None, Option, Some, [], ap, arith, cond, drop, false, filter, inl, inr, nat_eq, nat_lt, not, refl, slice_get, suc, sym, take, true, zero, ℕ, ◌&&◌, ◌+◌, ◌++◌, ◌<◌, ◌∙◌, ◌∷◌, ◌≡◌, ◌≢◌}
use Rattle.std.proofs.lemmas.Bool.{and_from, and_parts, cases_eq, cases_order, eq-eqb, false_from_ne_true, lt-ltb, ltb-true, ne_eqb, not-true}
use Rattle.std.proofs.lemmas.List.Elements.{filter-append}
use Rattle.std.proofs.lemmas.List.Folds.{list_all-append}
use Rattle.std.specs.Cmp.{IsTotalOrder, tied_back}
use Rattle.std.specs.Cmp.Lexicographic.{options_total}
use Rattle.std.specs.List.{list_all}
use Rattle.std.specs.Option.{option_cmp, option_map, option_map_or}
use Rattle.std.specs.Ordering.{is_eq, is_gt, is_lt, nat_cmp, ordering_then}
use Rattle.std.specs.Prelude.{MatchOption}
use Rattle.std.specs.declared.cmp.Ordering.{Ordering}
use Rattle.std.specs.declared.cmp.Ordering.TheVariants.{Equal, Greater, Less}
use Rattle.gt_index.specs.Index.{IsFirst, IsIndex, Rises, has_key, is_before, is_from, is_one_of, key_at, passes_at, places_from, places_where}
use Rattle.gt_index.specs.Split.{IsSplit, is_below, is_upto}
use Rattle.gt_index.proofs.FilingLemmas.{one_found}
use Rattle.gt_index.proofs.OrderLemmas.{eq_is}
use Rattle.gt_index.proofs.RiseLemmas.{all_at, one_first, one_later}

filter_all : (p : ℕ → Bool) (xs : List ℕ) → list_all p xs ≡ true → filter p xs ≡ xs
filter_all p [] all = refl
filter_all p (x ∷ xs) all =
    let parts = and_parts (p x) (list_all p xs) all in
    rw parts.0 (ap (λ ys. x ∷ ys) (filter_all p xs parts.1))

filter_none : (p : ℕ → Bool) (xs : List ℕ) → list_all (λ x. not (p x)) xs ≡ true → filter p xs ≡ []
filter_none p [] all = refl
filter_none p (x ∷ xs) all =
    let parts = and_parts (not (p x)) (list_all (λ y. not (p y)) xs) all in
    rw (not-true (p x) parts.0) (filter_none p xs parts.1)

all_both : (p q r : ℕ → Bool) → ((x : ℕ) → p x ≡ true → q x ≡ true → r x ≡ true) → (xs : List ℕ) → list_all p xs ≡ true → list_all q xs ≡ true
    → list_all r xs ≡ true
all_both p q r both [] first second = refl
all_both p q r both (x ∷ xs) first second =
    let one = and_parts (p x) (list_all p xs) first in
    let two = and_parts (q x) (list_all q xs) second in
    and_from (r x) (list_all r xs) (both x one.0 two.0) (all_both p q r both xs one.1 two.1)

take_and_drop : (n : ℕ) (xs : List ℕ) → take n xs ++ drop n xs ≡ xs
take_and_drop zero xs = refl
take_and_drop (suc n) [] = refl
take_and_drop (suc n) (x ∷ xs) = ap (λ ys. x ∷ ys) (take_and_drop n xs)

all_parts : (p : ℕ → Bool) (n : ℕ) (xs : List ℕ) → list_all p xs ≡ true → (list_all p (take n xs) ≡ true) × (list_all p (drop n xs) ≡ true)
all_parts p n xs all =
    and_parts (list_all p (take n xs)) (list_all p (drop n xs))
    (sym (list_all-append p (take n xs) (drop n xs)) ∙ ap (list_all p) (take_and_drop n xs) ∙ all)

-- how one order stands to a key, by the tests
is_tied : (r : Ordering) → not (is_lt r) ≡ true → not (is_gt r) ≡ true → is_eq r ≡ true
is_tied Less a b = cc
is_tied Equal a b = refl
is_tied Greater a b = cc

below_not_tied : (r : Ordering) → is_lt r ≡ true → not (is_eq r) ≡ true
below_not_tied Less a = refl
below_not_tied Equal a = cc
below_not_tied Greater a = cc

above_not_tied : (r : Ordering) → not (not (is_gt r)) ≡ true → not (is_eq r) ≡ true
above_not_tied Less a = cc
above_not_tied Equal a = cc
above_not_tied Greater a = refl

-- lists that climb as numbers, and are the same where they have the same elements
abbrev Climbs : List ℕ → Type 0
Climbs [] = Unit {0}
Climbs (x ∷ xs) = (list_all (nat_lt x) xs ≡ true) × Climbs xs

not_in_rest : (x : ℕ) (xs : List ℕ) → list_all (nat_lt x) xs ≡ true → is_one_of x xs ≡ false
not_in_rest x xs all =
    false_from_ne_true (is_one_of x xs)
    (λ one. let below : x < x = ltb-true x x (all_at (nat_lt x) xs x all one) in absurd (omega arith))

same_rest : (x q : ℕ) (xs : List ℕ) → x ≢ q → is_one_of q (x ∷ xs) ≡ is_one_of q xs
same_rest x q xs other = rw (ne_eqb x q other) refl

not_below_first : (x y : ℕ) (ys : List ℕ) → list_all (nat_lt y) ys ≡ true → is_one_of x (y ∷ ys) ≡ true → x < y → ⊥
not_below_first x y ys all one below =
    elim (cases_eq y x) [
      | inl same ↦ omega arith
      | inr other ↦
          let above : y < x = ltb-true y x (all_at (nat_lt y) ys x all (one_later y x ys other one)) in
          omega arith
    ]

climbs_same : (xs ys : List ℕ) → Climbs xs → Climbs ys → ((q : ℕ) → is_one_of q xs ≡ is_one_of q ys) → xs ≡ ys
climbs_same [] [] first second same = refl
climbs_same [] (y ∷ ys) first second same = let one = one_first y ys in let none = same y in cc
climbs_same (x ∷ xs) [] first second same = let one = one_first x xs in let none = same x in cc
climbs_same (x ∷ xs) (y ∷ ys) first second same =
    let one_x : is_one_of x (y ∷ ys) ≡ true = sym (same x) ∙ one_first x xs in
    let one_y : is_one_of y (x ∷ xs) ≡ true = same y ∙ one_first y ys in
    elim (cases_order x y) [
      | inl e ↦
          rw e
          (ap (λ zs. y ∷ zs)
          (climbs_same xs ys first.1 second.1
          (λ q.
          elim (cases_eq y q) [
            | inl own ↦ rw (← own) ((rw e at (not_in_rest x xs first.0)) ∙ sym (not_in_rest y ys second.0))
            | inr other ↦ sym (same_rest x q xs (λ own. other (sym e ∙ own))) ∙ same q ∙ same_rest y q ys other
          ])))
      | inr differ ↦
          elim differ [
            | inl below ↦ absurd (not_below_first x y ys second.0 one_x below)
            | inr above ↦ absurd (not_below_first y x xs first.0 one_y above)
          ]
    ]

-- the places of rows that pass climb
places_above : {R : Type 0} (m n : ℕ) (test : R → Bool) (rows : List R) → m < n → list_all (nat_lt m) (places_from n test rows) ≡ true
places_above m n test [] below = refl
places_above m n test (row ∷ rows) below =
    elim (test row) as (λ b. list_all (nat_lt m) (cond b (n ∷ places_from (n + 1) test rows) (places_from (n + 1) test rows)) ≡ true) [
      | true ↦
          and_from (nat_lt m n) (list_all (nat_lt m) (places_from (n + 1) test rows)) (lt-ltb m n below) (places_above m (n + 1) test rows (omega arith))
      | false ↦ places_above m (n + 1) test rows (omega arith)
    ]

places_climb : {R : Type 0} (n : ℕ) (test : R → Bool) (rows : List R) → Climbs (places_from n test rows)
places_climb n test [] = tt
places_climb n test (row ∷ rows) =
    elim (test row) as (λ b. Climbs (cond b (n ∷ places_from (n + 1) test rows) (places_from (n + 1) test rows))) [
      | true ↦ (places_above n (n + 1) test rows (omega arith), places_climb (n + 1) test rows)
      | false ↦ places_climb (n + 1) test rows
    ]

place_member : {R : Type 0} (n q i : ℕ) (test : R → Bool) (rows : List R) → q ≡ n + i → is_one_of q (places_from n test rows) ≡ passes_at test rows i
place_member n q i test [] e = refl
place_member n q zero test (row ∷ rows) e =
    let own : n ≡ q = omega arith in
    elim (test row) as (λ b. is_one_of q (cond b (n ∷ places_from (n + 1) test rows) (places_from (n + 1) test rows)) ≡ b) [
      | true ↦ rw own (one_first q (places_from (q + 1) test rows))
      | false ↦ not_in_rest q (places_from (n + 1) test rows) (places_above q (n + 1) test rows (omega arith))
    ]
place_member n q (suc i) test (row ∷ rows) e =
    let rest : is_one_of q (places_from (n + 1) test rows) ≡ passes_at test rows i = place_member (n + 1) q i test rows (omega arith) in
    elim (test row) as (λ b. is_one_of q (cond b (n ∷ places_from (n + 1) test rows) (places_from (n + 1) test rows)) ≡ passes_at test rows i) [
      | true ↦ same_rest n q (places_from (n + 1) test rows) (λ own. omega arith) ∙ rest
      | false ↦ rest
    ]

and_comm : (a b : Bool) → (a && b) ≡ (b && a)
and_comm true true = refl
and_comm true false = refl
and_comm false true = refl
and_comm false false = refl

filter_member : (p : ℕ → Bool) (xs : List ℕ) (q : ℕ) → is_one_of q (filter p xs) ≡ (p q && is_one_of q xs)
filter_member p [] q = sym (none (p q))
  where
    none : (b : Bool) → (b && false) ≡ false
    none true = refl
    none false = refl
filter_member p (x ∷ xs) q =
    elim (cases_eq x q) [
      | inl e ↦ of_first (p x) (p q) (ap p e) (filter_member p xs q) e
      | inr e ↦ of_rest (p x) (filter_member p xs q) e
    ]
  where
    of_first : (b c : Bool) → b ≡ c → is_one_of q (filter p xs) ≡ (c && is_one_of q xs) → x ≡ q
        → is_one_of q (cond b (x ∷ filter p xs) (filter p xs)) ≡ (c && is_one_of q (x ∷ xs))
    of_first true true same rest e = rw (eq-eqb x q e) refl
    of_first true false same rest e = cc
    of_first false true same rest e = cc
    of_first false false same rest e = rest

    of_rest : (b : Bool) → is_one_of q (filter p xs) ≡ (p q && is_one_of q xs) → x ≢ q
        → is_one_of q (cond b (x ∷ filter p xs) (filter p xs)) ≡ (p q && is_one_of q (x ∷ xs))
    of_rest true rest e = rw (ne_eqb x q e) rest
    of_rest false rest e = rw (ne_eqb x q e) rest

less_is : (a b : ℕ) → is_lt (nat_cmp a b) ≡ true → nat_lt a b ≡ true
less_is a b h = of_test (nat_lt a b) (nat_eq a b) h
  where
    of_test : (s t : Bool) → is_lt (cond s Less (cond t Equal Greater)) ≡ true → s ≡ true
    of_test true t e = refl
    of_test false true e = cc
    of_test false false e = cc

module _ {K : Type 0} (cmp : K → K → Ordering) (o : IsTotalOrder cmp) (k : K) (key : ℕ → Option K) where
  abbrev has : ℕ → Bool
  has place = is_eq (option_cmp cmp (key place) (Some k))

  less_of_tied : (a b : ℕ) → has a ≡ true → has b ≡ true → is_before cmp key a b ≡ true → nat_lt a b ≡ true
  less_of_tied a b first second before =
      let keys = options_total o in
      let own : option_cmp cmp (key a) (Some k) ≡ Equal = eq_is (option_cmp cmp (key a) (Some k)) first in
      let other : option_cmp cmp (key b) (Some k) ≡ Equal = eq_is (option_cmp cmp (key b) (Some k)) second in
      let tied : option_cmp cmp (key a) (key b) ≡ Equal = keys.congr (key a) (Some k) (key b) own ∙ tied_back keys (key b) (Some k) other in
      less_is a b (sym (ap (λ r. is_lt (ordering_then r (nat_cmp a b))) tied) ∙ before)

  filter_above : (a : ℕ) (xs : List ℕ) → has a ≡ true → list_all (is_before cmp key a) xs ≡ true → list_all (nat_lt a) (filter has xs) ≡ true
  filter_above a [] own all = refl
  filter_above a (x ∷ xs) own all =
      let parts = and_parts (is_before cmp key a x) (list_all (is_before cmp key a) xs) all in
      chosen (has x) refl parts.0 (filter_above a xs own parts.1)
    where
      chosen : (b : Bool) → has x ≡ b → is_before cmp key a x ≡ true → list_all (nat_lt a) (filter has xs) ≡ true
          → list_all (nat_lt a) (cond b (x ∷ filter has xs) (filter has xs)) ≡ true
      chosen true e before rest = and_from (nat_lt a x) (list_all (nat_lt a) (filter has xs)) (less_of_tied a x own e before) rest
      chosen false e before rest = rest

  filter_climbs : (xs : List ℕ) → Rises cmp key xs → Climbs (filter has xs)
  filter_climbs [] rises = tt
  filter_climbs (x ∷ xs) rises = chosen (has x) refl (filter_climbs xs rises.1)
    where
      chosen : (b : Bool) → has x ≡ b → Climbs (filter has xs) → Climbs (cond b (x ∷ filter has xs) (filter has xs))
      chosen true e rest = (filter_above x xs e rises.0, rest)
      chosen false e rest = rest

  -- the part between two searches has the places with the key
  part_is : (xs : List ℕ) (first count : ℕ) → IsSplit (is_below cmp key k) xs first → IsSplit (is_upto cmp key k) (drop first xs) count
      → take count (drop first xs) ≡ filter has xs
  part_is xs first count low high =
      let rest = all_parts (λ place. not (is_below cmp key k place)) count (drop first xs) low.rest in
      let none_low : filter has (take first xs) ≡ [] =
      filter_none has (take first xs)
      (all_both (is_below cmp key k) (is_below cmp key k) (λ place. not (has place)) (λ place below same. below_not_tied (option_cmp cmp (key place) (Some k)) below)
      (take first xs) low.front low.front) in
      let none_high : filter has (drop count (drop first xs)) ≡ [] =
      filter_none has (drop count (drop first xs))
      (all_both (λ place. not (is_upto cmp key k place)) (λ place. not (is_upto cmp key k place)) (λ place. not (has place))
      (λ place above same. above_not_tied (option_cmp cmp (key place) (Some k)) above) (drop count (drop first xs)) high.rest high.rest) in
      let all_mid : filter has (take count (drop first xs)) ≡ take count (drop first xs) =
      filter_all has (take count (drop first xs))
      (all_both (λ place. not (is_below cmp key k place)) (is_upto cmp key k) has
      (λ place from upto. is_tied (option_cmp cmp (key place) (Some k)) from upto) (take count (drop first xs)) rest.0 high.front) in
      sym
      (ap (filter has) (sym (take_and_drop first xs))
      ∙ filter-append has (take first xs) (drop first xs)
      ∙ ap (λ ys. ys ++ filter has (drop first xs)) none_low
      ∙ ap (filter has) (sym (take_and_drop count (drop first xs)))
      ∙ filter-append has (take count (drop first xs)) (drop count (drop first xs))
      ∙ ap (λ ys. filter has (take count (drop first xs)) ++ ys) none_high
      ∙ ends (filter has (take count (drop first xs)))
      ∙ all_mid)
    where
      ends : (ys : List ℕ) → ys ++ [] ≡ ys
      ends [] = refl
      ends (y ∷ ys) = ap (λ zs. y ∷ zs) (ends ys)

with_key : {R K : Type 0} (cmp : K → K → Ordering) (key : R → K) (k : K) (keeps : R → Bool) (found : Option R)
    → (is_eq (option_cmp cmp (option_map key found) (Some k)) && option_map_or keeps found false) ≡ option_map_or (λ row. keeps row && has_key cmp key k row) found false
with_key cmp key k keeps None = refl
with_key cmp key k keeps (Some row) = and_comm (is_eq (cmp (key row) k)) (keeps row)

pub run_is : {R K : Type 0} (cmp : K → K → Ordering) → IsTotalOrder cmp → (key : R → K) (k : K) (rows : List R) (xs : List ℕ) (first count : ℕ) (keeps : R → Bool)
    → IsIndex cmp key keeps rows xs → IsSplit (is_below cmp (key_at key rows) k) xs first → IsSplit (is_upto cmp (key_at key rows) k) (drop first xs) count
    → take count (drop first xs) ≡ places_where (λ row. keeps row && has_key cmp key k row) rows
run_is {R} cmp o key k rows xs first count keeps index low high =
    let tied = λ (place : ℕ). is_eq (option_cmp cmp (key_at key rows place) (Some k)) in
    let test = λ (row : R). keeps row && has_key cmp key k row in
    part_is cmp o k (key_at key rows) xs first count low high
    ∙ climbs_same (filter tied xs) (places_where test rows) (filter_climbs cmp o k (key_at key rows) xs index.rising) (places_climb 0 test rows)
    (λ q.
    filter_member tied xs q
    ∙ ap (λ b. tied q && b) (index.members q)
    ∙ with_key cmp key k keeps (slice_get rows q)
    ∙ sym (place_member 0 q q test rows (omega arith)))

-- the first place from a search on
all_if_none : (p : ℕ → Bool) (xs : List ℕ) (i : ℕ) → list_all p (take i xs) ≡ true → slice_get xs i ≡ None → list_all p xs ≡ true
all_if_none p [] i front none = refl
all_if_none p (x ∷ xs) zero front none = cc
all_if_none p (x ∷ xs) (suc i) front none =
    let parts = and_parts (p x) (list_all p (take i xs)) front in
    and_from (p x) (list_all p xs) parts.0 (all_if_none p xs i parts.1 none)

at_head : (p : ℕ → Bool) (xs : List ℕ) (i place : ℕ) → list_all p (drop i xs) ≡ true → slice_get xs i ≡ Some place → p place ≡ true
at_head p [] i place rest at = cc
at_head p (x ∷ xs) zero place rest at = let same : x ≡ place = cc in rw same at (and_parts (p x) (list_all p xs) rest).0
at_head p (x ∷ xs) (suc i) place rest at = at_head p xs i place rest at

comes_first : {K : Type 0} (cmp : K → K → Ordering) (key : ℕ → Option K) (p : ℕ → Bool) (xs : List ℕ) (i place other : ℕ) → Rises cmp key xs
    → list_all p (take i xs) ≡ true → slice_get xs i ≡ Some place → is_one_of other xs ≡ true → p other ≡ false → other ≢ place
    → is_before cmp key place other ≡ true
comes_first cmp key p [] i place other rises front at one miss differs = cc
comes_first cmp key p (x ∷ xs) zero place other rises front at one miss differs =
    let same : x ≡ place = cc in
    let before : is_before cmp key x other ≡ true = all_at (is_before cmp key x) xs other rises.0 (one_later x other xs (λ e. differs (sym e ∙ same)) one) in
    rw same at before
comes_first cmp key p (x ∷ xs) (suc i) place other rises front at one miss differs =
    let parts = and_parts (p x) (list_all p (take i xs)) front in
    let apart : x ≢ other = λ e. let hit : p other ≡ true = rw e at parts.0 in cc in
    comes_first cmp key p xs i place other rises.1 parts.1 at (one_later x other xs apart one) miss differs

from_key : {R K : Type 0} (cmp : K → K → Ordering) (key : R → K) (k : K) (keeps : R → Bool) (found : Option R)
    → option_map_or (λ row. keeps row && is_from cmp key k row) found false ≡ (not (is_lt (option_cmp cmp (option_map key found) (Some k))) && option_map_or keeps found false)
from_key cmp key k keeps None = refl
from_key cmp key k keeps (Some row) = and_comm (keeps row) (not (is_lt (cmp (key row) k)))

pub first_is : {R K : Type 0} (cmp : K → K → Ordering) (key : R → K) (k : K) (rows : List R) (xs : List ℕ) (at : ℕ) (found : Option ℕ) (keeps : R → Bool)
    → IsIndex cmp key keeps rows xs → IsSplit (is_below cmp (key_at key rows) k) xs at → slice_get xs at ≡ found
    → MatchOption found ((place : ℕ) → passes_at (λ row. keeps row && is_from cmp key k row) rows place ≡ false)
    (IsFirst cmp key (λ row. keeps row && is_from cmp key k row) rows)
first_is cmp key k rows xs at None keeps index low none = λ place.
    let below = is_below cmp (key_at key rows) k in
    false_from_ne_true (passes_at (λ row. keeps row && is_from cmp key k row) rows place)
    (λ passes.
    let parts = and_parts (not (below place)) (passes_at keeps rows place) (sym (from_key cmp key k keeps (slice_get rows place)) ∙ passes) in
    let under : below place ≡ true = all_at below xs place (all_if_none below xs at low.front none) (index.members place ∙ parts.1) in
    let over : below place ≡ false = not-true (below place) parts.0 in
    cc)
first_is cmp key k rows xs at (Some place) keeps index low some =
    let below = is_below cmp (key_at key rows) k in
    record {
      passes =
          from_key cmp key k keeps (slice_get rows place)
          ∙ and_from (not (below place)) (passes_at keeps rows place) (at_head (λ other. not (below other)) xs at place low.rest some)
          (sym (index.members place) ∙ one_found xs at place some);
      first = λ other passes differs.
          let parts = and_parts (not (below other)) (passes_at keeps rows other) (sym (from_key cmp key k keeps (slice_get rows other)) ∙ passes) in
          comes_first cmp (key_at key rows) below xs at place other index.rising low.front some (index.members other ∙ parts.1)
          (not-true (below other) parts.0) differs;
    }

pub rises_drop : {K : Type 0} (cmp : K → K → Ordering) (key : ℕ → Option K) (n : ℕ) (xs : List ℕ) → Rises cmp key xs → Rises cmp key (drop n xs)
rises_drop cmp key zero xs rises = rises
rises_drop cmp key (suc n) [] rises = tt
rises_drop cmp key (suc n) (x ∷ xs) rises = rises_drop cmp key n xs rises.1
