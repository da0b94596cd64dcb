-- What a search of numbers in order finds.
use Rattle.std.proofs.Common.{◌≡◌, inl, inr, ℕ, List, Contains, Result, Ok, Err, is_ok, true, refl, subst, arith}
use Rattle.std.specs.List.Sorted.{IsBinarySearchResult}
use Rattle.std.specs.Ordering.{nat_cmp}
use Rattle.std.proofs.lemmas.List.{get_or_default}
use Rattle.std.proofs.lemmas.List.Sorted.{searched}
use Rattle.std.proofs.lemmas.List.Elements.{Contains-get_or}
use Rattle.std.proofs.lemmas.Bool.{cases_lt, false≢true}
use Rattle.gt_causes.specs.Counts.{IsRising}

module _ (xs : List ℕ) (x : ℕ) (rising : IsRising xs) where
  pub found : (r : Result ℕ ℕ) → IsBinarySearchResult (λ y. nat_cmp y x) xs r → is_ok r ≡ true → Contains xs x
  found (Ok i) is ok = let at = searched xs x (Ok i) is rising in subst (Contains xs) at.1 (Contains-get_or xs i 0 at.0)
  found (Err i) is ok = absurd (false≢true ok)

  pub finds : (r : Result ℕ ℕ) → IsBinarySearchResult (λ y. nat_cmp y x) xs r → Contains xs x → is_ok r ≡ true
  finds (Ok i) is has = refl
  finds (Err i) is (k, low, at) =
      let none = searched xs x (Err i) is rising in
      let same = get_or_default xs k x 0 low in
      elim (cases_lt k i) [
        | inl below ↦ absurd (omega (arith, none.1 k below, same, at))
        | inr above ↦ absurd (omega (arith, none.2 k above low, same, at))
      ]
