-- A text is read as the number that is printed as it.
use Rattle.std.proofs.Common.{Bool, List, None, Some, ap, arith, false, nat_le, refl, sym, true, ℕ, if◌then◌else◌, ◌&&◌, ◌<◌, ◌^◌, ◌∙◌, ◌≡◌, ◌≤◌}
use Rattle.std.proofs.lemmas.Bool.Decides.{nat_tests}
use Rattle.std.proofs.lemmas.Fmt.{decimal_is_IsNumeral}
use Rattle.std.proofs.lemmas.Slice.Eq.{bytes_eq-Decides}
use Rattle.std.specs.Fmt.{decimal}
use Rattle.std.specs.Str.{bytes_eq}
use Rattle.std.specs.Str.Parse.{digits_value}
use Rattle.gt_values.specs.Decimal.{number_in}

-- the number of a printed text
value_is : (n : ℕ) (text : List ℕ) → n < 2 ^ 64 → text ≡ decimal n → digits_value 10 text ≡ n
value_is n text fits is = ap (digits_value 10) is ∙ (decimal_is_IsNumeral n fits).1

picked : (low same : Bool) (v : ℕ) → low ≡ true → same ≡ true → (if low && same then Some v else None) ≡ Some v
picked true true v l s = refl
picked true false v l s = search (nat_tests, s)
picked false same v l s = search (nat_tests, l)

-- a printed number is found
pub present : (most n : ℕ) (text : List ℕ) → n ≤ most → n < 2 ^ 64 → text ≡ decimal n → number_in most text ≡ Some n
unfolding number_in
present most n text low fits is =
    let v = digits_value 10 text in
    let same : v ≡ n = value_is n text fits is in
    let within : nat_le v most ≡ true = grind (arith, nat_tests, same, low) in
    let printed : bytes_eq (decimal v) text ≡ true = (bytes_eq-Decides (decimal v) text).1 (ap decimal same ∙ sym is) in
    picked (nat_le v most) (bytes_eq (decimal v) text) v within printed ∙ ap (λ (n : ℕ). Some n) same

-- where no number is printed so, none is found
pub absent : (most : ℕ) (text : List ℕ) → ((n : ℕ) → n ≤ most → text ≡ decimal n → ⊥) → None ≡ number_in most text
unfolding number_in
absent most text none =
    let v = digits_value 10 text in
    by_tests (nat_le v most) (bytes_eq (decimal v) text) (λ low same. none v (grind (arith, nat_tests, low)) (sym ((bytes_eq-Decides (decimal v) text).0 same)))
  where
    by_tests : (low same : Bool) → (low ≡ true → same ≡ true → ⊥) → None ≡ (if low && same then Some (digits_value 10 text) else None)
    by_tests true true not_both = absurd (not_both refl refl)
    by_tests true false not_both = refl
    by_tests false same not_both = refl
