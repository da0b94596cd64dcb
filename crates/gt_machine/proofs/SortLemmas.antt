-- A stable sort by a key is the insertion sort by it.
use Rattle.std.proofs.Common.{Bor, ◌≡◌, ◌≤◌, ◌<◌, ℕ, List, [], append_assoc, ◌∷◌, ◌++◌, ◌∙◌, suc, length, map, nat_cmp, Bool, true, false, refl, sym, ap, arith, rules, if◌then◌else◌}
use Rattle.std.specs.Prelude.{filter, fold, nat_eq, nat_lt, not, ◌&&◌}
use Rattle.std.specs.Ordering.{is_lt}
use Rattle.std.specs.List.{slice_index_or}
use Rattle.std.proofs.lemmas.Fn.{always_returns_same}
use Rattle.std.proofs.lemmas.List.Sorted.{IsNonDecreasingBy-from_sort_by_key}
use Rattle.std.specs.Fn.{Called, ComputesKey, Mut}
use Rattle.std.specs.List.Sorted.{IsNonDecreasingBy, IsSortedByKey, IsStableByKey, ties}
use Rattle.gt_machine.specs.Lists.{inserted, sorted_by}

-- no key is below this one
abbrev pub AtLeast : {X : Type 0} → (X → ℕ) → ℕ → List X → Type 0
AtLeast key n [] = Unit {0}
AtLeast key n (x ∷ xs) = (n ≤ key x) × AtLeast key n xs

-- no key is below one before it
abbrev pub Rises : {X : Type 0} → (X → ℕ) → List X → Type 0
Rises key [] = Unit {0}
Rises key (x ∷ xs) = AtLeast key (key x) xs × Rises key xs

-- the rows of this key
abbrev pub of_key : {X : Type 0} → (X → ℕ) → ℕ → List X → List X
of_key key k xs = filter (λ x. nat_eq (key x) k) xs

at_least : {X : Type 0} (key : X → ℕ) (n : ℕ) (ys : List X) → ((j : ℕ) (d : X) → j < length ys → n ≤ key (slice_index_or ys j d)) → AtLeast key n ys
at_least key n [] all = tt
at_least key n (y ∷ ys) all = (all 0 y (omega arith), at_least key n ys (λ j d within. all (suc j) d (omega (arith, within))))

pub rises_of : {X : Type 0} (key : X → ℕ) (ys : List X) → IsNonDecreasingBy key ys → Rises key ys
rises_of key [] sorted = tt
rises_of key (y ∷ ys) sorted = (
  at_least key (key y) ys (λ j d within. sorted 0 (suc j) d (omega arith) (omega (arith, within))),
  rises_of key ys (λ i j d below within. sorted (suc i) (suc j) d (omega (arith, below)) (omega (arith, within))),
)

weaker : {X : Type 0} (key : X → ℕ) (m n : ℕ) (xs : List X) → m ≤ n → AtLeast key n xs → AtLeast key m xs
weaker key m n [] le least = tt
weaker key m n (x ∷ xs) le least = (omega (arith, le, least.0), weaker key m n xs le least.1)

-- rows of a smaller key aren't there
none_below : {X : Type 0} (key : X → ℕ) (n k : ℕ) (xs : List X) → AtLeast key n xs → k < n → of_key key k xs ≡ []
none_below key n k [] least below = refl
none_below key n k (x ∷ xs) least below =
    let rest = none_below key n k xs least.1 below in
    let other : nat_eq (key x) k ≡ false = grind (arith, rules, least.0, below) in
    grind (rules, rest, other)

head_kept : {X : Type 0} (key : X → ℕ) (x : X) (xs : List X) → of_key key (key x) (x ∷ xs) ≡ x ∷ of_key key (key x) xs
head_kept key x xs =
    let same : nat_eq (key x) (key x) ≡ true = grind (arith, rules) in
    grind (rules, same)

-- two lists that rise, with the same rows of each key, are one
pub one_order : {X : Type 0} (key : X → ℕ) (ys zs : List X) → Rises key ys → Rises key zs → ((k : ℕ) → of_key key k ys ≡ of_key key k zs) → ys ≡ zs
one_order key [] [] a b same = refl
one_order key [] (z ∷ zs) a b same = let is = same (key z) in let there = head_kept key z zs in absurd (cc)
one_order key (y ∷ ys) [] a b same = let is = same (key y) in let there = head_kept key y ys in absurd (cc)
one_order key (y ∷ ys) (z ∷ zs) a b same =
    by_cases (nat_lt (key y) (key z)) (nat_lt (key z) (key y)) refl refl (λ tails. one_order key ys zs a.1 b.1 tails)
  where
    first : key y < key z → ⊥
    first below =
        let gone = none_below key (key z) (key y) (z ∷ zs) (omega arith, b.0) below in
        let there = head_kept key y ys in let is = same (key y) in absurd (cc)

    second : key z < key y → ⊥
    second below =
        let gone = none_below key (key y) (key z) (y ∷ ys) (omega arith, a.0) below in
        let there = head_kept key z zs in let is = same (key z) in absurd (cc)

    head_same : key y ≡ key z → y ≡ z
    head_same e =
        let in_y = head_kept key y ys in let in_z = head_kept key z zs in let is = same (key y) in cc

    tail_same : key y ≡ key z → (k : ℕ) → of_key key k ys ≡ of_key key k zs
    tail_same e k = by_key (nat_eq (key y) k) refl
      where
        by_key : (b : Bool) → nat_eq (key y) k ≡ b → of_key key k ys ≡ of_key key k zs
        by_key true is_y = let is = same k in let is_z : nat_eq (key z) k ≡ true = cc in grind (rules, is, is_y, is_z)
        by_key false is_y = let is = same k in let is_z : nat_eq (key z) k ≡ false = cc in grind (rules, is, is_y, is_z)

    by_cases : (l m : Bool) → nat_lt (key y) (key z) ≡ l → nat_lt (key z) (key y) ≡ m
        → (((k : ℕ) → of_key key k ys ≡ of_key key k zs) → ys ≡ zs) → y ∷ ys ≡ z ∷ zs
    by_cases true m is_l is_m rest = absurd (first (grind (arith, rules, is_l)))
    by_cases false true is_l is_m rest = absurd (second (grind (arith, rules, is_m)))
    by_cases false false is_l is_m rest =
        let e : key y ≡ key z = grind (arith, rules, is_l, is_m) in
        let heads = head_same e in let tails = rest (tail_same e) in cc

-- a row put in before the first greater one
pub inserted_rises : {X : Type 0} (key : X → ℕ) (n : ℕ) (row : X) (xs : List X) → n ≤ key row → AtLeast key n xs → Rises key xs
    → AtLeast key n (inserted key row xs) × Rises key (inserted key row xs)
inserted_rises key n row [] low least rises = ((low, tt), (tt, tt))
inserted_rises key n row (x ∷ xs) low least rises =
    by_cases (nat_lt (key row) (key x)) refl (λ above. inserted_rises key (key x) row xs above rises.0 rises.1) (inserted_rises key n row xs low least.1 rises.1)
  where
    by_cases : (b : Bool) → nat_lt (key row) (key x) ≡ b
        → (key x ≤ key row → AtLeast key (key x) (inserted key row xs) × Rises key (inserted key row xs))
        → AtLeast key n (inserted key row xs) × Rises key (inserted key row xs)
        → AtLeast key n (if b then row ∷ x ∷ xs else x ∷ inserted key row xs) × Rises key (if b then row ∷ x ∷ xs else x ∷ inserted key row xs)
    by_cases true is deep wide =
        let below : key row ≤ key x = grind (arith, rules, is) in
        ((low, least), ((below, weaker key (key row) (key x) xs below rises.0), rises))
    by_cases false is deep wide =
        let above : key x ≤ key row = grind (arith, rules, is) in
        ((least.0, wide.0), deep above)

-- it comes behind the others of its key
inserted_behind : {X : Type 0} (key : X → ℕ) (k : ℕ) (row : X) (xs : List X) → Rises key xs
    → of_key key k (inserted key row xs) ≡ of_key key k xs ++ of_key key k (row ∷ [])
inserted_behind key k row [] rises = refl
inserted_behind key k row (x ∷ xs) rises =
    by_cases (nat_lt (key row) (key x)) (nat_eq (key x) k) (nat_eq (key row) k) refl refl refl (inserted_behind key k row xs rises.1)
  where
    by_cases : (l e r : Bool) → nat_lt (key row) (key x) ≡ l → nat_eq (key x) k ≡ e → nat_eq (key row) k ≡ r
        → of_key key k (inserted key row xs) ≡ of_key key k xs ++ of_key key k (row ∷ [])
        → of_key key k (if l then row ∷ x ∷ xs else x ∷ inserted key row xs) ≡ of_key key k (x ∷ xs) ++ of_key key k (row ∷ [])
    by_cases true e true is_l is_e is_r deep =
        let none = none_below key (key x) k (x ∷ xs) (omega arith, rises.0) (grind (arith, rules, is_l, is_r)) in
        grind (rules, none, is_r)
    by_cases true true false is_l is_e is_r deep = grind (rules, is_e, is_r)
    by_cases true false false is_l is_e is_r deep = grind (rules, is_e, is_r)
    by_cases false true r is_l is_e is_r deep = grind (rules, deep, is_e, is_r)
    by_cases false false r is_l is_e is_r deep = grind (rules, deep, is_e, is_r)

folded : {X : Type 0} (key : X → ℕ) (acc xs : List X) → Rises key acc
    → Rises key (fold (λ sorted row. inserted key row sorted) acc xs)
    × ((k : ℕ) → of_key key k (fold (λ sorted row. inserted key row sorted) acc xs) ≡ of_key key k acc ++ of_key key k xs)
folded key acc [] rises = (rises, λ k. grind rules)
folded key acc (x ∷ xs) rises =
    let one = inserted_rises key 0 x acc (omega arith) (least_zero key acc) rises in
    let rest = folded key (inserted key x acc) xs one.1 in (
      rest.0,
      λ k. rest.1 k ∙ (ap (λ t. t ++ of_key key k xs) (inserted_behind key k x acc rises)
          ∙ (append_assoc (of_key key k acc) (of_key key k (x ∷ [])) (of_key key k xs) ∙ ap (λ t. of_key key k acc ++ t) (one_more key k x xs))),
    )
  where
    one_more : {X : Type 0} (key : X → ℕ) (k : ℕ) (x : X) (xs : List X) → of_key key k (x ∷ []) ++ of_key key k xs ≡ of_key key k (x ∷ xs)
    one_more key k x xs = grind rules

    least_zero : {X : Type 0} (key : X → ℕ) (xs : List X) → AtLeast key 0 xs
    least_zero key [] = tt
    least_zero key (x ∷ xs) = (omega arith, least_zero key xs)

-- what rises and has the rows of each key in their order is the insertion sort
pub is_sorted_by : {X : Type 0} (key : X → ℕ) (xs ys : List X) → Rises key ys → ((k : ℕ) → of_key key k ys ≡ of_key key k xs) → ys ≡ sorted_by key xs
is_sorted_by key xs ys rises same =
    let sorted = folded key [] xs tt in one_order key ys (sorted_by key xs) rises sorted.0 (λ k. same k ∙ sym (sorted.1 k))

-- the insertion sort of what rows are mapped to
sorted_map : {X Y : Type 0} (f : X → Y) (key : Y → ℕ) (acc rows : List X)
    → map f (fold (λ sorted row. inserted (λ x. key (f x)) row sorted) acc rows) ≡ fold (λ sorted row. inserted key row sorted) (map f acc) (map f rows)
sorted_map f key acc [] = refl
sorted_map f key acc (x ∷ xs) =
    sorted_map f key (inserted (λ y. key (f y)) x acc) xs ∙ ap (λ t. fold (λ sorted row. inserted key row sorted) t (map f xs)) (inserted_map f key x acc)
  where
    inserted_map : {X Y : Type 0} (f : X → Y) (key : Y → ℕ) (x : X) (xs : List X) → map f (inserted (λ y. key (f y)) x xs) ≡ inserted key (f x) (map f xs)
    inserted_map f key x [] = refl
    inserted_map f key x (y ∷ ys) = let rest = inserted_map f key x ys in by_cases (nat_lt (key (f x)) (key (f y))) rest
      where
        by_cases : (b : Bool) → map f (inserted (λ y. key (f y)) x ys) ≡ inserted key (f x) (map f ys)
            → map f (if b then x ∷ y ∷ ys else y ∷ inserted (λ y. key (f y)) x ys) ≡ (if b then f x ∷ f y ∷ map f ys else f y ∷ inserted key (f x) (map f ys))
        by_cases true is = refl
        by_cases false is = ap (λ t. f y ∷ t) is

pub sorted_by_map : {X Y : Type 0} (f : X → Y) (key : Y → ℕ) (rows : List X) → map f (sorted_by (λ x. key (f x)) rows) ≡ sorted_by key (map f rows)
sorted_by_map f key rows = sorted_map f key [] rows

-- an order by a key tells apart what differs in it
ties_of : (m n : ℕ) → (not (is_lt (nat_cmp m n)) && not (is_lt (nat_cmp n m))) ≡ nat_eq n m
ties_of m n = grind (arith, rules)

of_ties : {X : Type 0} (key : X → ℕ) (x : X) (xs : List X) → filter (ties (λ a b. is_lt (nat_cmp (key a) (key b))) x) xs ≡ of_key key (key x) xs
of_ties key x [] = refl
of_ties key x (y ∷ ys) = let rest = of_ties key x ys in let same = ties_of (key x) (key y) in grind (rules, rest, same)

-- the rows of a key that no row has are the same too
same_rows : {X : Type 0} (key : X → ℕ) (xs ys : List X) → IsStableByKey key nat_cmp xs ys → (k : ℕ) → of_key key k ys ≡ of_key key k xs
same_rows {X = X} key xs ys stable k = by_cases (of_key key k ys) (of_key key k xs) refl refl
  where
    has_key : {X : Type 0} (key : X → ℕ) (k : ℕ) (x : X) (xs found : List X) → of_key key k xs ≡ x ∷ found → key x ≡ k
    has_key key k x [] found is = absurd (cc)
    has_key key k x (y ∷ ys) found is = by_test (nat_eq (key y) k) refl is (has_key key k x ys found)
      where
        by_test : (b : Bool) → nat_eq (key y) k ≡ b → (if b then y ∷ of_key key k ys else of_key key k ys) ≡ x ∷ found
            → (of_key key k ys ≡ x ∷ found → key x ≡ k) → key x ≡ k
        by_test true e is rest = let same : y ≡ x = cc in let at : key y ≡ k = grind (arith, rules, e) in cc
        by_test false e is rest = rest is

    at : (x : X) → key x ≡ k → of_key key k ys ≡ of_key key k xs
    at x is = let in_ys = of_ties key x ys in let in_xs = of_ties key x xs in let same = stable x in cc

    by_cases : (a b : List X) → of_key key k ys ≡ a → of_key key k xs ≡ b → of_key key k ys ≡ of_key key k xs
    by_cases [] [] is_a is_b = is_a ∙ sym is_b
    by_cases (x ∷ a) b is_a is_b = at x (has_key key k x ys a is_a)
    by_cases [] (x ∷ b) is_a is_b = at x (has_key key k x xs b is_b)

-- what `sort_by_key` gives, where each call gives n of the element
pub sort_by_key_is : {X F : Type 0} {g : Mut F (Bor X × Unit {0}) ℕ} {f : F} (n : X → ℕ) (xs ys : List X)
    → ((key : X → ℕ) → ComputesKey g key f → IsSortedByKey key nat_cmp ys) → ((key : X → ℕ) → ComputesKey g key f → IsStableByKey key nat_cmp xs ys)
    → ((a : Bor X × Unit {0}) (r : ℕ) (f' : F) → Called g f a r f' → (r ≡ n a.0.now) × (f' ≡ f)) → ys ≡ sorted_by n xs
sort_by_key_is {g = g} {f = f} n xs ys sorted stable calls =
    is_sorted_by n xs ys (rises_of n ys (IsNonDecreasingBy-from_sort_by_key n ys sorted calls))
    (same_rows n xs ys (stable n (always_returns_same g (λ a r. r ≡ n a.0.now) f calls)))
