-- Whether a character is in ranges, from the first of them on.
use Rattle.std.proofs.Common.{length, drop, ◌+◌, Option, Some, cond, not, arith, ◌≡◌, ◌∙◌, ℕ, List, ◌∷◌, ◌&&◌, ◌||◌, Bool, true, false, ap, sym}
use Rattle.std.specs.Prelude.{nat_le}
use Rattle.gt_select.specs.Pattern.{class_or_bracket, fits, is_in, ranges}
use Rattle.std.proofs.lemmas.Bool.{true≢false}
use Rattle.std.proofs.lemmas.List.{drop-drop}
use mathlib.Core.Bool.{beq}

module _ (c low high : ℕ) (members : List ℕ) (more : List (ℕ × ℕ)) (first : ranges members ≡ (low, high) ∷ more) where
  pub is_in-first : (nat_le low c && nat_le c high) ≡ true → is_in c (ranges members) ≡ true
  is_in-first h = ap (is_in c) first ∙ ap (λ b. b || is_in c more) h

  pub is_in-later : (nat_le low c && nat_le c high) ≡ false → is_in c (ranges members) ≡ is_in c more
  is_in-later h = ap (is_in c) first ∙ ap (λ b. b || is_in c more) h

-- what stands behind a class, counted from behind its bracket
pub behind-class : (negated : Bool) (text behind : List ℕ) (first : ℕ) (inner : List ℕ) (members : Option (List ℕ)) → members ≡ Some (first ∷ inner)
    → behind ≡ drop (length inner + 2) (cond negated (drop 1 text) text) → behind ≡ drop (class_or_bracket negated members).1 text
behind-class true text behind first inner members e at =
    at ∙ drop-drop (length inner + 2) 1 text ∙ ap (λ k. drop k text) (omega arith)
    ∙ ap (λ m. drop (class_or_bracket true m).1 text) (sym e)
behind-class false text behind first inner members e at =
    at ∙ ap (λ k. drop k text) (omega arith) ∙ ap (λ m. drop (class_or_bracket false m).1 text) (sym e)

-- the character is in the class where the test of its members says other than its negation
pub fits-class : (negated is_member : Bool) (c : ℕ) (list : List ℕ) (members : Option (List ℕ)) → members ≡ Some list
    → is_member ≡ is_in c (ranges list) → not (beq is_member negated) ≡ true → fits (class_or_bracket negated members).0 c ≡ true
fits-class negated is_member c list members e is other = ap (λ m. fits (class_or_bracket negated m).0 c) e ∙ by negated is_member is other
  where
    by : (n m : Bool) → m ≡ is_in c (ranges list) → not (beq m n) ≡ true → fits (class_or_bracket n (Some list)).0 c ≡ true
    by true true i o = absurd (true≢false (sym o))
    by true false i o = ap not (sym i)
    by false true i o = sym i
    by false false i o = absurd (true≢false (sym o))
