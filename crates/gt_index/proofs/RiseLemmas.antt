-- Rising lists of places.
use Rattle.std.proofs.Common.{Bool, List, Option, Some, [], ap, arith, drop, false, get_or, inl, inr, length, nat_eq, not, refl, slice_get, sym, take, true, suc, zero, ℕ, ◌&&◌, ◌<◌, ◌∙◌, ◌∷◌, ◌≡◌, ◌≢◌, ◌≤◌, ◌||◌}
use Rattle.std.proofs.lemmas.Bool.{and_from, and_parts, cases_eq, eq-eqb, eqb-true, false_from_ne_true, ne_eqb, not-true, not_from_false, or_cases}
use Rattle.std.specs.Cmp.{IsTotalOrder}
use Rattle.std.specs.List.{insert, list_all, remove}
use Rattle.std.specs.List.Sorted.{IsPartitionPoint, IsPartitionedBy}
use Rattle.std.specs.declared.cmp.Ordering.{Ordering}
use Rattle.gt_index.specs.Index.{Rises, is_before, is_one_of}
use Rattle.gt_index.specs.Split.{IsSplit}
use Rattle.gt_index.proofs.OrderLemmas.{before-itself, before-or}

-- a test that all pass, at one of them
pub all_at : (p : ℕ → Bool) (xs : List ℕ) (q : ℕ) → list_all p xs ≡ true → is_one_of q xs ≡ true → p q ≡ true
all_at p [] q all one = cc
all_at p (x ∷ xs) q all one =
    let parts = and_parts (p x) (list_all p xs) all in
    elim (or_cases (nat_eq x q) (is_one_of q xs) one) [
      | inl first ↦ ap p (sym (eqb-true x q first)) ∙ parts.0
      | inr later ↦ all_at p xs q parts.1 later
    ]

all_index : (p : ℕ → Bool) (xs : List ℕ) (j d : ℕ) → list_all p xs ≡ true → j < length xs → p (get_or xs j d) ≡ true
all_index p [] j d all within = absurd (omega arith)
all_index p (x ∷ xs) zero d all within = (and_parts (p x) (list_all p xs) all).0
all_index p (x ∷ xs) (suc j) d all within = all_index p xs j d (and_parts (p x) (list_all p xs) all).1 (omega arith)

pub all_more : (p q : ℕ → Bool) → ((x : ℕ) → p x ≡ true → q x ≡ true) → (xs : List ℕ) → list_all p xs ≡ true → list_all q xs ≡ true
all_more p q more [] all = refl
all_more p q more (x ∷ xs) all =
    let parts = and_parts (p x) (list_all p xs) all in
    and_from (q x) (list_all q xs) (more x parts.0) (all_more p q more xs parts.1)

pub one_first : (x : ℕ) (xs : List ℕ) → is_one_of x (x ∷ xs) ≡ true
one_first x xs = rw (eq-eqb x x refl) refl

pub one_later : (x q : ℕ) (xs : List ℕ) → x ≢ q → is_one_of q (x ∷ xs) ≡ true → is_one_of q xs ≡ true
one_later x q xs other one =
    elim (or_cases (nat_eq x q) (is_one_of q xs) one) [
      | inl first ↦ absurd (other (eqb-true x q first))
      | inr later ↦ later
    ]

-- where a search ends
front_of : (p : ℕ → Bool) (xs : List ℕ) (i : ℕ) → ((k d : ℕ) → 0 ≤ k → k < i → p (get_or xs k d) ≡ true) → i ≤ length xs → list_all p (take i xs) ≡ true
front_of p [] zero each within = refl
front_of p [] (suc i) each within = absurd (omega arith)
front_of p (x ∷ xs) zero each within = refl
front_of p (x ∷ xs) (suc i) each within =
    and_from (p x) (list_all p (take i xs)) (each 0 0 (omega arith) (omega arith))
    (front_of p xs i (λ k d low high. each (suc k) d (omega arith) (omega arith)) (omega arith))

rest_of : (p : ℕ → Bool) (xs : List ℕ) (i : ℕ) → ((k d : ℕ) → i ≤ k → k < length xs → p (get_or xs k d) ≡ false)
    → list_all (λ x. not (p x)) (drop i xs) ≡ true
rest_of p [] zero each = refl
rest_of p [] (suc i) each = refl
rest_of p (x ∷ xs) zero each =
    and_from (not (p x)) (list_all (λ y. not (p y)) xs) (not_from_false (p x) (each 0 0 (omega arith) (omega arith)))
    (rest_of p xs 0 (λ k d low high. each (suc k) d (omega arith) (omega arith)))
rest_of p (x ∷ xs) (suc i) each = rest_of p xs i (λ k d low high. each (suc k) d (omega arith) (omega arith))

pub split_is : (p : ℕ → Bool) (xs : List ℕ) (i : ℕ) → i ≤ length xs → IsPartitionPoint (λ x. p x ≡ true) (λ x. p x ≡ false) xs i → IsSplit p xs i
split_is p xs i within point =
    record {
      within = within;
      front = front_of p xs i point.0 within;
      rest = rest_of p xs i point.1;
    }

-- the lists that an insertion and a removal leave
all_insert : (p : ℕ → Bool) (xs : List ℕ) (i n : ℕ) → list_all p xs ≡ true → p n ≡ true → list_all p (insert xs i n) ≡ true
all_insert p [] zero n all own = and_from (p n) true own refl
all_insert p [] (suc i) n all own = and_from (p n) true own refl
all_insert p (x ∷ xs) zero n all own = and_from (p n) (list_all p (x ∷ xs)) own all
all_insert p (x ∷ xs) (suc i) n all own =
    let parts = and_parts (p x) (list_all p xs) all in
    and_from (p x) (list_all p (insert xs i n)) parts.0 (all_insert p xs i n parts.1 own)

all_remove : (p : ℕ → Bool) (xs : List ℕ) (i : ℕ) → list_all p xs ≡ true → list_all p (remove xs i) ≡ true
all_remove p [] zero all = refl
all_remove p [] (suc i) all = refl
all_remove p (x ∷ xs) zero all = (and_parts (p x) (list_all p xs) all).1
all_remove p (x ∷ xs) (suc i) all =
    let parts = and_parts (p x) (list_all p xs) all in
    and_from (p x) (list_all p (remove xs i)) parts.0 (all_remove p xs i parts.1)

pub one_insert : (xs : List ℕ) (i n q : ℕ) → is_one_of q (insert xs i n) ≡ (nat_eq n q || is_one_of q xs)
one_insert [] zero n q = refl
one_insert [] (suc i) n q = refl
one_insert (x ∷ xs) zero n q = refl
one_insert (x ∷ xs) (suc i) n q = ap (λ b. nat_eq x q || b) (one_insert xs i n q) ∙ swapped (nat_eq x q) (nat_eq n q) (is_one_of q xs)
  where
    swapped : (a b c : Bool) → (a || (b || c)) ≡ (b || (a || c))
    swapped true true c = refl
    swapped true false c = refl
    swapped false b c = refl

module _ {K : Type 0} (cmp : K → K → Ordering) (o : IsTotalOrder cmp) (key : ℕ → Option K) where
  -- a test that each place passes which comes before one that does
  pub partitioned : (p : ℕ → Bool) → ((a b : ℕ) → is_before cmp key a b ≡ true → p b ≡ true → p a ≡ true) → (xs : List ℕ) → Rises cmp key xs
      → IsPartitionedBy p xs
  partitioned p before [] rises i j d low high h = absurd (omega arith)
  partitioned p before (x ∷ xs) rises zero zero d low high h = h
  partitioned p before (x ∷ xs) rises zero (suc j) d low high h =
      before x (get_or xs j d) (all_index (is_before cmp key x) xs j d rises.0 (omega arith)) h
  partitioned p before (x ∷ xs) rises (suc i) zero d low high h = absurd (omega arith)
  partitioned p before (x ∷ xs) rises (suc i) (suc j) d low high h =
      partitioned p before xs rises.1 i j d (omega arith) (omega arith) h

  -- the place that is searched isn't before itself, and all before where it goes are
  pub at_place : (xs : List ℕ) (i n : ℕ) → Rises cmp key xs → list_all (λ x. is_before cmp key x n) (take i xs) ≡ true
      → list_all (λ x. not (is_before cmp key x n)) (drop i xs) ≡ true → is_one_of n xs ≡ true → slice_get xs i ≡ Some n
  at_place [] i n rises front rest one = cc
  at_place (x ∷ xs) zero n rises front rest one =
      let parts = and_parts (not (is_before cmp key x n)) (list_all (λ y. not (is_before cmp key y n)) xs) rest in
      elim (cases_eq x n) [
        | inl same ↦ ap Some same
        | inr other ↦
            let before : is_before cmp key x n ≡ true = all_at (is_before cmp key x) xs n rises.0 (one_later x n xs other one) in
            let not_before : is_before cmp key x n ≡ false = not-true (is_before cmp key x n) parts.0 in
            cc
      ]
  at_place (x ∷ xs) (suc i) n rises front rest one =
      let parts = and_parts (is_before cmp key x n) (list_all (λ y. is_before cmp key y n) (take i xs)) front in
      let other : x ≢ n = λ same. before-itself cmp o key n (rw same at parts.0) in
      at_place xs i n rises.1 parts.1 rest (one_later x n xs other one)

  -- an insertion where the search ends
  pub rises_insert : (xs : List ℕ) (i n : ℕ) → Rises cmp key xs → list_all (λ x. is_before cmp key x n) (take i xs) ≡ true
      → list_all (λ x. is_before cmp key n x) (drop i xs) ≡ true → Rises cmp key (insert xs i n)
  rises_insert [] zero n rises front rest = (refl, tt)
  rises_insert [] (suc i) n rises front rest = (refl, tt)
  rises_insert (x ∷ xs) zero n rises front rest = (rest, rises)
  rises_insert (x ∷ xs) (suc i) n rises front rest =
      let parts = and_parts (is_before cmp key x n) (list_all (λ y. is_before cmp key y n) (take i xs)) front in
      (all_insert (is_before cmp key x) xs i n rises.0 parts.0, rises_insert xs i n rises.1 parts.1 rest)

  pub rises_remove : (xs : List ℕ) (i : ℕ) → Rises cmp key xs → Rises cmp key (remove xs i)
  rises_remove [] zero rises = tt
  rises_remove [] (suc i) rises = tt
  rises_remove (x ∷ xs) zero rises = rises.1
  rises_remove (x ∷ xs) (suc i) rises = (all_remove (is_before cmp key x) xs i rises.0, rises_remove xs i rises.1)

  -- a place that isn't there goes before those that don't come before it
  pub rest_before : (xs : List ℕ) (n : ℕ) → list_all (λ x. not (is_before cmp key x n)) xs ≡ true → is_one_of n xs ≡ false
      → list_all (λ x. is_before cmp key n x) xs ≡ true
  rest_before [] n rest none = refl
  rest_before (x ∷ xs) n rest none =
      let parts = and_parts (not (is_before cmp key x n)) (list_all (λ y. not (is_before cmp key y n)) xs) rest in
      let other : x ≢ n = λ same. let one : is_one_of n (x ∷ xs) ≡ true = rw same (one_first n xs) in cc in
      let later : is_one_of n xs ≡ false = false_from_ne_true (is_one_of n xs) (λ one. let found : is_one_of n (x ∷ xs) ≡ true = rw (ne_eqb x n other) one in cc) in
      and_from (is_before cmp key n x) (list_all (λ y. is_before cmp key n y) xs)
      (before-or cmp o key x n other (not-true (is_before cmp key x n) parts.0)) (rest_before xs n parts.1 later)

  none_after : (x : ℕ) (xs : List ℕ) → list_all (is_before cmp key x) xs ≡ true → is_one_of x xs ≡ false
  none_after x xs all = false_from_ne_true (is_one_of x xs) (λ one. before-itself cmp o key x (all_at (is_before cmp key x) xs x all one))

  and_true : (b : Bool) → (b && true) ≡ b
  and_true true = refl
  and_true false = refl

  and_false : (b : Bool) → (b && false) ≡ false
  and_false true = refl
  and_false false = refl

  -- the others stay where one is removed
  pub one_remove : (xs : List ℕ) (i n q : ℕ) → Rises cmp key xs → slice_get xs i ≡ Some n
      → is_one_of q (remove xs i) ≡ (is_one_of q xs && not (nat_eq n q))
  one_remove [] i n q rises at = cc
  one_remove (x ∷ xs) zero n q rises at =
      let same : x ≡ n = cc in
      elim (cases_eq n q) [
        | inl e ↦
            let none : is_one_of q xs ≡ false = rw (same, e) at (none_after x xs rises.0) in
            none ∙ sym (rw (eq-eqb n q e) (and_false (is_one_of q (x ∷ xs))))
        | inr e ↦ sym (rw (ne_eqb n q e, same, ne_eqb n q e) (and_true (is_one_of q xs)))
      ]
  one_remove (x ∷ xs) (suc i) n q rises at =
      let rest : is_one_of q (remove xs i) ≡ (is_one_of q xs && not (nat_eq n q)) = one_remove xs i n q rises.1 at in
      elim (cases_eq n q) [
        | inl e ↦
            let there : is_one_of n xs ≡ true = found xs i n at in
            let other : x ≢ q = λ same. before-itself cmp o key x (all_at (is_before cmp key x) xs x rises.0 (rw (same, ← e) there)) in
            rw (ne_eqb x q other) rest
        | inr e ↦
            let own : (is_one_of q xs && not (nat_eq n q)) ≡ is_one_of q xs = rw (ne_eqb n q e) (and_true (is_one_of q xs)) in
            ap (λ b. nat_eq x q || b) (rest ∙ own) ∙ sym (rw (ne_eqb n q e) (and_true (is_one_of q (x ∷ xs))))
      ]
    where
      found : (xs : List ℕ) (i n : ℕ) → slice_get xs i ≡ Some n → is_one_of n xs ≡ true
      found [] i n at = cc
      found (x ∷ xs) zero n at = let same : x ≡ n = cc in rw same (one_first n xs)
      found (x ∷ xs) (suc i) n at = rw (found xs i n at) (or_true (nat_eq x n))
        where
          or_true : (b : Bool) → (b || true) ≡ true
          or_true true = refl
          or_true false = refl
