-- What holds of all rows holds of a page and of the rows in an order; what a filter keeps; and pages join.
use Rattle.std.proofs.Common.{◌≡◌, ◌≤◌, ℕ, zero, suc, ◌+◌, ◌*◌, ◌∙◌, List, [], ◌∷◌, ◌++◌, length, map, take, drop, All, Bool, true, false, refl, sym, ap, arith, fold, cond}
use Rattle.std.proofs.lemmas.List.{drop-drop, drop-map, length-drop, length-map, take-append-drop, take-map}
use Rattle.std.proofs.lemmas.List.Elements.{All-cons, All-drop, All-head, All-nil, All-tail, All-take}
use Rattle.std.specs.Prelude.{filter, if◌then◌else◌, nat_lt}
use Rattle.gt_machine.specs.Lists.{inserted, joined_pages, page_line, page_of, sorted_by}

-- the rows of a page
pub All-page : {X : Type 0} (P : X → Type 0) (limit offset : ℕ) (xs : List X) → All P xs → All P (page_of limit offset xs)
All-page P limit offset xs all = All-take P limit (drop offset xs) (All-drop P offset xs all)

All-inserted : {X : Type 0} (P : X → Type 0) (key : X → ℕ) (row : X) (xs : List X) → P row → All P xs → All P (inserted key row xs)
All-inserted P key row [] one all = All-cons P row [] one all
All-inserted P key row (x ∷ xs) one all = of_test (nat_lt (key row) (key x)) (All-inserted P key row xs one (All-tail P x xs all))
  where
    of_test : (b : Bool) → All P (inserted key row xs) → All P (if b then row ∷ x ∷ xs else x ∷ inserted key row xs)
    of_test true rest = All-cons P row (x ∷ xs) one all
    of_test false rest = All-cons P x (inserted key row xs) (All-head P x xs all) rest

All-folded : {X : Type 0} (P : X → Type 0) (key : X → ℕ) (sorted xs : List X) → All P sorted → All P xs → All P (fold (λ sorted row. inserted key row sorted) sorted xs)
All-folded P key sorted [] in_sorted all = in_sorted
All-folded P key sorted (x ∷ xs) in_sorted all =
    All-folded P key (inserted key x sorted) xs (All-inserted P key x sorted (All-head P x xs all) in_sorted) (All-tail P x xs all)

-- the rows in an order
pub All-sorted : {X : Type 0} (P : X → Type 0) (key : X → ℕ) (xs : List X) → All P xs → All P (sorted_by key xs)
All-sorted P key xs all = All-folded P key [] xs (All-nil P) all

-- those of the rows' values that pass a test
pub filter_map_is : {X Y : Type 0} (f : X → Y) (p : Y → Bool) (xs : List X) → map f (filter (λ x. p (f x)) xs) ≡ filter p (map f xs)
filter_map_is f p [] = refl
filter_map_is f p (x ∷ xs) = of_test (p (f x)) (filter_map_is f p xs)
  where
    of_test : (b : Bool) → map f (filter (λ x. p (f x)) xs) ≡ filter p (map f xs)
        → map f (cond b (x ∷ filter (λ x. p (f x)) xs) (filter (λ x. p (f x)) xs)) ≡ cond b (f x ∷ filter p (map f xs)) (filter p (map f xs))
    of_test true rest = ap (λ t. f x ∷ t) rest
    of_test false rest = rest

-- pages of one limit, one after another, are the list
joined_from : {X : Type 0} (limit pages offset : ℕ) (rows : List X) → length rows ≤ offset + pages * limit → joined_pages limit pages offset rows ≡ drop offset rows
joined_from limit zero offset rows few = sym (nothing_left (drop offset rows) (omega (arith, few, length-drop offset rows)))
  where
    nothing_left : {X : Type 0} (xs : List X) → length xs ≡ 0 → xs ≡ []
    nothing_left [] is = refl
    nothing_left (x ∷ xs) is = absurd (omega (arith, is))
joined_from limit (suc pages) offset rows few =
    ap (λ t. page_of limit offset rows ++ t)
    (joined_from limit pages (offset + limit) rows (omega (arith, few)) ∙ sym (drop-drop limit offset rows))
    ∙ take-append-drop limit (drop offset rows)

pub pages_join : {X : Type 0} (limit pages : ℕ) (rows : List X) → length rows ≤ pages * limit → joined_pages limit pages 0 rows ≡ rows
pages_join limit pages rows few = joined_from limit pages 0 rows (omega (arith, few))

-- a page of what the rows are mapped to, and what its list says of it
pub page_map : {X Y : Type 0} (f : X → Y) (limit offset : ℕ) (xs : List X) → map f (page_of limit offset xs) ≡ page_of limit offset (map f xs)
page_map f limit offset xs = sym (take-map f limit (drop offset xs)) ∙ ap (take limit) (sym (drop-map f offset xs))

pub line_map : {X Y : Type 0} (f : X → Y) (limit offset : ℕ) (xs : List X) → page_line limit offset (map f xs) ≡ page_line limit offset xs
line_map f limit offset xs = ap (λ n. record { limit = limit; offset = offset; total = n }) (length-map xs f)
