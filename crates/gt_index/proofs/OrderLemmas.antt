-- The order of places.
use Rattle.std.proofs.Common.{Option, Some, ap, false, not, refl, true, ℕ, ◌∙◌, ◌≡◌, ◌≢◌}
use Rattle.std.proofs.lemmas.Bool.{not-true, not_from_false}
use Rattle.std.specs.Cmp.{IsTotalOrder, nat_cmp_total, on_total, then_total, tied_itself, upto}
use Rattle.std.specs.Cmp.Lexicographic.{options_total}
use Rattle.std.specs.FinMap.{nat_cmp-IsAntisymmetric}
use Rattle.std.specs.Option.{option_cmp}
use Rattle.std.specs.Ordering.{is_eq, is_gt, is_lt, nat_cmp, ordering_reverse, ordering_then}
use Rattle.std.specs.declared.cmp.Ordering.{Ordering}
use Rattle.std.specs.declared.cmp.Ordering.TheVariants.{Equal, Greater, Less}
use Rattle.gt_index.specs.Index.{is_before}

pub lt_is : (r : Ordering) → is_lt r ≡ true → r ≡ Less
lt_is Less e = refl
lt_is Equal e = cc
lt_is Greater e = cc

pub eq_is : (r : Ordering) → is_eq r ≡ true → r ≡ Equal
eq_is Less e = cc
eq_is Equal e = refl
eq_is Greater e = cc

-- what ties by both is one place
tie_is : (r : Ordering) (a b : ℕ) → ordering_then r (nat_cmp a b) ≡ Equal → a ≡ b
tie_is Less a b e = cc
tie_is Equal a b e = nat_cmp-IsAntisymmetric a b e
tie_is Greater a b e = cc

other_way : (r turned : Ordering) → turned ≡ ordering_reverse r → is_lt r ≡ false → (r ≡ Equal → ⊥) → is_lt turned ≡ true
other_way Less turned is e other = cc
other_way Equal turned is e other = absurd (other refl)
other_way Greater turned is e other = ap is_lt is

module _ {K : Type 0} (cmp : K → K → Ordering) (o : IsTotalOrder cmp) (key : ℕ → Option K) where
  abbrev place_cmp : ℕ → ℕ → Ordering
  place_cmp a b = ordering_then (option_cmp cmp (key a) (key b)) (nat_cmp a b)

  place_total : IsTotalOrder (λ a b. ordering_then (option_cmp cmp (key a) (key b)) (nat_cmp a b))
  place_total = then_total (on_total key (options_total o)) nat_cmp_total

  pub before-trans : (a b c : ℕ) → is_before cmp key a b ≡ true → is_before cmp key b c ≡ true → is_before cmp key a c ≡ true
  before-trans a b c first second = ap is_lt (place_total.trans a b c (lt_is (place_cmp a b) first) (lt_is (place_cmp b c) second))

  pub before-itself : (a : ℕ) → is_before cmp key a a ≡ true → ⊥
  before-itself a h =
      let tied : place_cmp a a ≡ Equal = tied_itself place_total a in
      let less : place_cmp a a ≡ Less = lt_is (place_cmp a a) h in
      cc

  pub before-or : (a b : ℕ) → a ≢ b → is_before cmp key a b ≡ false → is_before cmp key b a ≡ true
  before-or a b other h =
      other_way (place_cmp a b) (place_cmp b a) (place_total.antisymm b a) h
      (λ tied. other (tie_is (option_cmp cmp (key a) (key b)) a b tied))

  below_with : (r s t u : Ordering) → ordering_then r u ≡ Less → s ≡ Less → (r ≡ Less → t ≡ Less) → (r ≡ Equal → t ≡ s) → t ≡ Less
  below_with Less s t u first second less tied = less refl
  below_with Equal s t u first second less tied = tied refl ∙ second
  below_with Greater s t u first second less tied = cc

  -- what comes before a place below the key is below the key
  pub below-before : (k : K) (a b : ℕ) → is_before cmp key a b ≡ true → is_lt (option_cmp cmp (key b) (Some k)) ≡ true
      → is_lt (option_cmp cmp (key a) (Some k)) ≡ true
  below-before k a b first second =
      let keys = options_total o in
      let below : option_cmp cmp (key b) (Some k) ≡ Less = lt_is (option_cmp cmp (key b) (Some k)) second in
      ap is_lt
      (below_with (option_cmp cmp (key a) (key b)) (option_cmp cmp (key b) (Some k)) (option_cmp cmp (key a) (Some k)) (nat_cmp a b)
      (lt_is (place_cmp a b) first) below
      (λ less. keys.trans (key a) (key b) (Some k) less below)
      (λ tied. keys.congr (key a) (key b) (Some k) tied))

  not_above : (r u : Ordering) → ordering_then r u ≡ Less → is_gt r ≡ false
  not_above Less u e = refl
  not_above Equal u e = refl
  not_above Greater u e = cc

  -- what comes before a place that isn't above the key isn't above it
  pub upto-before : (k : K) (a b : ℕ) → is_before cmp key a b ≡ true → not (is_gt (option_cmp cmp (key b) (Some k))) ≡ true
      → not (is_gt (option_cmp cmp (key a) (Some k))) ≡ true
  upto-before k a b first second =
      not_from_false (is_gt (option_cmp cmp (key a) (Some k)))
      (upto (options_total o) (key a) (key b) (Some k)
      (not_above (option_cmp cmp (key a) (key b)) (nat_cmp a b) (lt_is (place_cmp a b) first))
      (not-true (is_gt (option_cmp cmp (key b) (Some k))) second))
