-- Counts and sums over the rows that pass a test, after one more row and after one is written anew.
use Rattle.std.proofs.Common.{Bool, List, Some, [], arith, cond, false, filter, length, slice_get, slice_set, suc, true, zero, ℕ, ◌+◌, ◌++◌, ◌∷◌, ◌≡◌, ◌≤◌}
use Rattle.std.proofs.lemmas.List.Sums.{sum_by-cons}
use Rattle.std.specs.Prelude.{sum_by}

-- 1 for a row that passes
abbrev pub one_if : Bool → ℕ
one_if b = cond b 1 0

module _ {X : Type 0} (p : X → Bool) where
  count-head : (b : Bool) (x : X) (xs : List X) → length (cond b (x ∷ xs) xs) ≡ one_if b + length xs
  count-head true x xs = omega arith
  count-head false x xs = omega arith

  pub count_push : (xs : List X) (x : X) → length (filter p (xs ++ x ∷ [])) ≡ length (filter p xs) + one_if (p x)
  count_push [] x = omega (arith, count-head (p x) x [])
  count_push (y ∷ xs) x =
      omega (arith, count-head (p y) y (filter p (xs ++ x ∷ [])), count-head (p y) y (filter p xs), count_push xs x)

  pub count_set : (xs : List X) (k : ℕ) (x y : X) → slice_get xs k ≡ Some x
      → length (filter p (slice_set xs k y)) + one_if (p x) ≡ length (filter p xs) + one_if (p y)
  count_set [] k x y at = cc
  count_set (z ∷ xs) zero x y at =
      let same : z ≡ x = cc in
      rw same (omega (arith, count-head (p y) y (filter p xs), count-head (p x) x (filter p xs)))
  count_set (z ∷ xs) (suc k) x y at =
      omega (arith, count-head (p z) z (filter p (slice_set xs k y)), count-head (p z) z (filter p xs), count_set xs k x y at)

  pub count_part : (xs : List X) (k : ℕ) (x : X) → slice_get xs k ≡ Some x → one_if (p x) ≤ length (filter p xs)
  count_part [] k x at = cc
  count_part (z ∷ xs) zero x at =
      let same : z ≡ x = cc in
      rw same (omega (arith, count-head (p x) x (filter p xs)))
  count_part (z ∷ xs) (suc k) x at = omega (arith, count-head (p z) z (filter p xs), count_part xs k x at)

  pub count_within : (xs : List X) → length (filter p xs) ≤ length xs
  count_within [] = omega arith
  count_within (x ∷ xs) = omega (arith, count-head (p x) x (filter p xs), one (p x), count_within xs)
    where
      one : (b : Bool) → one_if b ≤ 1
      one true = omega arith
      one false = omega arith

  module _ (f : X → ℕ) where
    sum-head : (b : Bool) (x : X) (xs : List X) → sum_by f (cond b (x ∷ xs) xs) ≡ cond b (f x) 0 + sum_by f xs
    sum-head true x xs = sum_by-cons f x xs
    sum-head false x xs = omega arith

    pub sum_push : (xs : List X) (x : X) → sum_by f (filter p (xs ++ x ∷ [])) ≡ sum_by f (filter p xs) + cond (p x) (f x) 0
    sum_push [] x = omega (arith, sum-head (p x) x [])
    sum_push (y ∷ xs) x =
        omega (arith, sum-head (p y) y (filter p (xs ++ x ∷ [])), sum-head (p y) y (filter p xs), sum_push xs x)

    pub sum_set : (xs : List X) (k : ℕ) (x y : X) → slice_get xs k ≡ Some x
        → sum_by f (filter p (slice_set xs k y)) + cond (p x) (f x) 0 ≡ sum_by f (filter p xs) + cond (p y) (f y) 0
    sum_set [] k x y at = cc
    sum_set (z ∷ xs) zero x y at =
        let same : z ≡ x = cc in
        rw same (omega (arith, sum-head (p y) y (filter p xs), sum-head (p x) x (filter p xs)))
    sum_set (z ∷ xs) (suc k) x y at =
        omega (arith, sum-head (p z) z (filter p (slice_set xs k y)), sum-head (p z) z (filter p xs), sum_set xs k x y at)

    pub sum_part : (xs : List X) (k : ℕ) (x : X) → slice_get xs k ≡ Some x → cond (p x) (f x) 0 ≤ sum_by f (filter p xs)
    sum_part [] k x at = cc
    sum_part (z ∷ xs) zero x at =
        let same : z ≡ x = cc in
        rw same (omega (arith, sum-head (p x) x (filter p xs)))
    sum_part (z ∷ xs) (suc k) x at = omega (arith, sum-head (p z) z (filter p xs), sum_part xs k x at)
