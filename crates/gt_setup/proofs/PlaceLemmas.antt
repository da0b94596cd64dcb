-- First places in lists, and what indexes have at keys.
use Rattle.std.proofs.Common.{Bool, List, None, Option, Some, [], ap, arith, cond, false, find, get_or, length, map, option_map, refl, true, suc, ℕ, ◌++◌, ◌<◌, ◌∙◌, ◌∷◌, ◌≡◌}
use Rattle.std.proofs.lemmas.Bool.Decides.{nat_tests}
use Rattle.std.proofs.lemmas.Option.{slice_get_read}
use Rattle.std.proofs.lemmas.List.Sums.{prefix_len-le-length}
use Rattle.std.specs.List.{list_any, position, slice_get}
use Rattle.std.specs.Option.{is_some, option_and_then, option_or}
use Rattle.gt_setup.specs.Indexed.{first_place}

find_more : {X : Type 0} (b : Bool) (x : X) (xs : List X) (o : Option X) (place : Option ℕ) → o ≡ option_and_then (λ i. slice_get xs i) place
    → cond b (Some x) o ≡ option_and_then (λ i. slice_get (x ∷ xs) i) (cond b (Some 0) (option_map (λ i. suc i) place))
find_more true x xs o place e = refl
find_more false x xs o None e = e
find_more false x xs o (Some i) e = e

pub find_by_place : {X : Type 0} (test : X → Bool) (xs : List X) → find test xs ≡ option_and_then (λ i. slice_get xs i) (first_place test xs)
find_by_place test [] = refl
find_by_place test (x ∷ xs) = find_more (test x) x xs (find test xs) (first_place test xs) (find_by_place test xs)

pub position_by_place : {X : Type 0} (test : X → Bool) (xs : List X) → position test xs ≡ first_place test xs
position_by_place test [] = refl
position_by_place test (x ∷ xs) = grind (arith, nat_tests, position_by_place test xs, prefix_len-le-length (λ y. cond (test y) false true) xs)

pub first_place_push : {X : Type 0} (test : X → Bool) (xs : List X) (y : X)
    → first_place test (xs ++ y ∷ []) ≡ option_or (first_place test xs) (cond (test y) (Some (length xs)) None)
first_place_push test [] y = grind arith
first_place_push test (x ∷ xs) y = grind (arith, first_place_push test xs y)

pub any_place : {X : Type 0} (test : X → Bool) (xs : List X) → is_some (first_place test xs) ≡ list_any test xs
any_place test [] = refl
any_place test (x ∷ xs) = grind (arith, any_place test xs)

pub first_place_map : {X Y : Type 0} (test : Y → Bool) (f : X → Y) (xs : List X) → first_place test (map f xs) ≡ first_place (λ x. test (f x)) xs
first_place_map test f [] = refl
first_place_map test f (x ∷ xs) = grind (arith, first_place_map test f xs)

pub first_place_within : {X : Type 0} (test : X → Bool) (xs : List X) (i : ℕ) → first_place test xs ≡ Some i → i < length xs
first_place_within test [] i e = cc
first_place_within test (x ∷ xs) i e = grind (arith, first_place_within test xs)

-- what stands at the first place is found
pub found_at_place : {X : Type 0} (test : X → Bool) (xs : List X) (i : ℕ) (x : X) → first_place test xs ≡ Some i → x ≡ get_or xs i x
    → find test xs ≡ Some x
found_at_place test xs i x at is =
    find_by_place test xs ∙ ap (λ o. option_and_then (λ k. slice_get xs k) o) at
    ∙ slice_get_read xs (length xs) i x refl (first_place_within test xs i at) is

pub none_without_place : {X : Type 0} (test : X → Bool) (xs : List X) → first_place test xs ≡ None → find test xs ≡ None
none_without_place test xs none = find_by_place test xs ∙ ap (λ o. option_and_then (λ k. slice_get xs k) o) none
