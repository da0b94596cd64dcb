-- Lists of rows: maps that agree, and rows of which one is changed.
use Rattle.std.proofs.Common.{◌≡◌, ◌≢◌, ℕ, zero, suc, ◌-◌, List, [], ◌∷◌, map, All, Bool, true, false, cond, Option, Some, None, refl, sym, ap, ◌∙◌, subst, arith, rules}
use Rattle.std.proofs.lemmas.List.Elements.{All-head, All-tail, All-set}
use Rattle.std.specs.Prelude.{filter, if◌then◌else◌, slice_get, slice_set, ◌==◌}
use Rattle.std.specs.Option.{option_map_or}
use Rattle.gt_machine.specs.SoundRows.{IsNumbered}
use Rattle.gt_values.specs.Rows.{changed_at, row_at}

pub if_false : {X : Type 0} (b : Bool) (x y : X) → b ≡ false → (if b then x else y) ≡ y
if_false true x y is = absurd (cc)
if_false false x y is = refl

-- numbers that the test tells to be one, or not
pub equal_test : (a b : ℕ) → (a == b) ≡ true → a ≡ b
equal_test a b is = grind (rules, is)

pub differs : (a b : ℕ) → (a == b) ≡ false → a ≢ b
differs a b is same = grind (rules, is, same)

pub unlike_test : (a b : ℕ) → a ≢ b → (a == b) ≡ false
unlike_test a b other = by_test (a == b) refl
  where
    by_test : (t : Bool) → (a == b) ≡ t → (a == b) ≡ false
    by_test true is = absurd (other (equal_test a b is))
    by_test false is = is

-- two maps that agree on each element
pub map_alike : {X Y : Type 0} (f g : X → Y) (xs : List X) → All (λ x. f x ≡ g x) xs → map f xs ≡ map g xs
map_alike f g [] all = refl
map_alike f g (x ∷ xs) all =
    let here : f x ≡ g x = All-head (λ x. f x ≡ g x) x xs all in
    let rest : map f xs ≡ map g xs = map_alike f g xs (All-tail (λ x. f x ≡ g x) x xs all) in
    λ i. here i ∷ rest i

-- a map that keeps each element
pub map_same : {X : Type 0} (f : X → X) (xs : List X) → All (λ x. f x ≡ x) xs → map f xs ≡ xs
map_same f [] all = refl
map_same f (x ∷ xs) all =
    let here : f x ≡ x = All-head (λ x. f x ≡ x) x xs all in
    let rest : map f xs ≡ xs = map_same f xs (All-tail (λ x. f x ≡ x) x xs all) in
    λ i. here i ∷ rest i

-- a map that keeps each element but the one at this place
map_at_place : {X : Type 0} (f : X → X) (xs : List X) (j : ℕ) → ((i : ℕ) (x : X) → slice_get xs i ≡ Some x → i ≢ j → f x ≡ x)
    → map f xs ≡ option_map_or (λ x. slice_set xs j (f x)) (slice_get xs j) xs
map_at_place f [] j each = refl
map_at_place {X} f (x ∷ xs) zero each = λ i. f x ∷ kept xs (λ n y at. each (suc n) y at (λ is. absurd (omega (arith, is)))) i
  where
    kept : (ys : List X) → ((n : ℕ) (y : X) → slice_get ys n ≡ Some y → f y ≡ y) → map f ys ≡ ys
    kept [] all = refl
    kept (y ∷ ys) all = let here : f y ≡ y = all zero y refl in let rest : map f ys ≡ ys = kept ys (λ n z at. all (suc n) z at) in λ i. here i ∷ rest i
map_at_place {X} f (x ∷ xs) (suc j) each =
    by_cases (slice_get xs j)
    (map_at_place f xs j (λ i y at other. each (suc i) y at (λ is. other (omega (arith, is)))))
  where
    here : f x ≡ x
    here = each zero x refl (λ is. absurd (omega (arith, is)))

    by_cases : (o : Option X) → map f xs ≡ option_map_or (λ y. slice_set xs j (f y)) o xs
        → f x ∷ map f xs ≡ option_map_or (λ y. slice_set (x ∷ xs) (suc j) (f y)) o (x ∷ xs)
    by_cases None is = λ i. here i ∷ is i
    by_cases (Some y) is = λ i. here i ∷ is i

-- a map of numbered rows that keeps each row but the one of this number
pub map_at_number : {X : Type 0} (key : X → ℕ) (f : X → X) (xs : List X) (n : ℕ) → IsNumbered key xs
    → ((i : ℕ) (x : X) → slice_get xs i ≡ Some x → key x ≢ n → f x ≡ x) → map f xs ≡ changed_at n f xs
map_at_number {X} key f xs zero numbered each = kept xs (λ i x at. each i x at (λ is. absurd (omega (arith, is, numbered i x at))))
  where
    kept : (ys : List X) → ((i : ℕ) (y : X) → slice_get ys i ≡ Some y → f y ≡ y) → map f ys ≡ ys
    kept [] all = refl
    kept (y ∷ ys) all = let here : f y ≡ y = all zero y refl in let rest : map f ys ≡ ys = kept ys (λ i z at. all (suc i) z at) in λ i. here i ∷ rest i
map_at_number key f xs (suc j) numbered each =
    let place : j ≡ suc j - 1 = omega arith in
    subst (λ (p : ℕ). map f xs ≡ option_map_or (λ x. slice_set xs p (f x)) (slice_get xs j) xs) place
    (map_at_place f xs j (λ i x at other. each i x at (λ is. other (omega (arith, is, numbered i x at)))))

-- what holds of all elements holds of the one at a place
pub all_at : {X : Type 0} (P : X → Type 0) (xs : List X) (i : ℕ) (x : X) → All P xs → slice_get xs i ≡ Some x → P x
all_at P [] i x all at = absurd (cc)
all_at P (y ∷ ys) zero x all at = let same : y ≡ x = cc in subst P same (All-head P y ys all)
all_at P (y ∷ ys) (suc i) x all at = all_at P ys i x (All-tail P y ys all) at

-- rows of which one is changed
pub all_changed : {X : Type 0} (P : X → Type 0) (n : ℕ) (f : X → X) (xs : List X) → ((x : X) → row_at xs n ≡ Some x → P (f x)) → All P xs → All P (changed_at n f xs)
all_changed {X} P n f xs new all = by_cases (row_at xs n) refl
  where
    by_cases : (o : Option X) → row_at xs n ≡ o → All P (option_map_or (λ row. slice_set xs (n - 1) (f row)) o xs)
    by_cases None is = all
    by_cases (Some x) is = All-set P xs (n - 1) (f x) (new x is) all

set_other : {X : Type 0} (xs : List X) (i j : ℕ) (y : X) → j ≢ i → slice_get (slice_set xs i y) j ≡ slice_get xs j
set_other [] i j y other = refl
set_other (x ∷ xs) zero zero y other = absurd (other refl)
set_other (x ∷ xs) zero (suc j) y other = refl
set_other (x ∷ xs) (suc i) zero y other = refl
set_other (x ∷ xs) (suc i) (suc j) y other = set_other xs i j y (λ is. other (omega (arith, is)))

-- the row of another number
pub other_row : {X : Type 0} (f : X → X) (xs : List X) (n t : ℕ) → t ≢ n → row_at (changed_at n f xs) t ≡ row_at xs t
other_row f xs n zero other = refl
other_row f xs zero (suc j) other = refl
other_row {X} f xs (suc i) (suc j) other = by_cases (slice_get xs i)
  where
    by_cases : (o : Option X) → slice_get (option_map_or (λ row. slice_set xs (suc i - 1) (f row)) o xs) j ≡ slice_get xs j
    by_cases None = refl
    by_cases (Some x) = set_other xs (suc i - 1) j (f x) (λ is. other (omega (arith, is)))

pub numbered_row : {X : Type 0} (key : X → ℕ) (xs : List X) (n : ℕ) (x : X) → IsNumbered key xs → row_at xs n ≡ Some x → key x ≡ n
numbered_row key xs zero x numbered at = absurd (cc)
numbered_row key xs (suc i) x numbered at = numbered i x at ∙ (omega arith)

-- a filter passes over a row that is changed where neither the old nor the new one passes
filter_set : {X : Type 0} (q : X → Bool) (xs : List X) (j : ℕ) (x y : X) → slice_get xs j ≡ Some x → q x ≡ false → q y ≡ false
    → filter q (slice_set xs j y) ≡ filter q xs
filter_set q [] j x y at out in_out = absurd (cc)
filter_set q (z ∷ xs) zero x y at out in_out =
    let same : x ≡ z = cc in
    if_false (q y) (y ∷ filter q xs) (filter q xs) in_out
    ∙ sym (if_false (q z) (z ∷ filter q xs) (filter q xs) (ap q (sym same) ∙ out))
filter_set q (z ∷ xs) (suc j) x y at out in_out = ap (λ rest. cond (q z) (z ∷ rest) rest) (filter_set q xs j x y at out in_out)

pub filter_changed : {X : Type 0} (q : X → Bool) (xs : List X) (n : ℕ) (x y : X) → row_at xs n ≡ Some x → q x ≡ false → q y ≡ false
    → filter q (changed_at n (λ _. y) xs) ≡ filter q xs
filter_changed q xs zero x y at out in_out = absurd (cc)
filter_changed {X} q xs (suc j) x y at out in_out =
    let place : j ≡ suc j - 1 = omega arith in
    ap (λ (o : Option X). filter q (option_map_or (λ row. slice_set xs (suc j - 1) y) o xs)) at
    ∙ subst (λ (p : ℕ). filter q (slice_set xs p y) ≡ filter q xs) place (filter_set q xs j x y at out in_out)
