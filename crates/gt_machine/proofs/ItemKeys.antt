-- What of an item never changes, and how a step adds to it.
use Rattle.std.proofs.Common.{◌≡◌, ◌⊎◌, inl, inr, ℕ, zero, suc, List, [], ◌∷◌, ◌++◌, map, Option, Some, refl}
use Rattle.std.specs.Prelude.{slice_get}
use Rattle.std.specs.Option.{option_map}
use Rattle.std.proofs.lemmas.Option.{slice_get-map}
use Rattle.gt_types.specs.declared.act.Act.{Act}
use Rattle.gt_subtasks.specs.declared.item.Item.{Item}
use Rattle.gt_values.specs.Rows.{row_at}

pub record ItemKey : Type 0 where
  pub number : ℕ
  pub task : ℕ
  pub parent : Option ℕ
  pub entry : ℕ
  pub act : Act

abbrev pub item_key : Item → ItemKey
item_key item = record { number = item.number; task = item.task; parent = item.parent; entry = item.entry; act = item.act }

abbrev pub item_keys : List Item → List ItemKey
item_keys items = map item_key items

pub item_keys-append : (xs ys : List Item) → item_keys (xs ++ ys) ≡ item_keys xs ++ item_keys ys
item_keys-append [] ys = refl
item_keys-append (x ∷ xs) ys = λ i. item_key x ∷ item_keys-append xs ys i

pub row_at-map : (xs : List Item) (n : ℕ) → row_at (item_keys xs) n ≡ option_map item_key (row_at xs n)
row_at-map xs zero = refl
row_at-map xs (suc i) = slice_get-map item_key xs i

pub split_at : {X : Type 0} (xs ys : List X) (j : ℕ) (x : X) → slice_get (xs ++ ys) j ≡ Some x → (slice_get xs j ≡ Some x) ⊎ ((i : ℕ) × (slice_get ys i ≡ Some x))
split_at [] ys j x at = inr (j, at)
split_at (y ∷ xs) ys zero x at = inl at
split_at (y ∷ xs) ys (suc j) x at = split_at xs ys j x at

slice-append : {X : Type 0} (xs ys : List X) (j : ℕ) (x : X) → slice_get xs j ≡ Some x → slice_get (xs ++ ys) j ≡ Some x
slice-append [] ys j x at = absurd (cc)
slice-append (y ∷ xs) ys zero x at = at
slice-append (y ∷ xs) ys (suc j) x at = slice-append xs ys j x at

pub row-append : {X : Type 0} (xs ys : List X) (n : ℕ) (x : X) → row_at xs n ≡ Some x → row_at (xs ++ ys) n ≡ Some x
row-append xs ys zero x at = absurd (cc)
row-append xs ys (suc j) x at = slice-append xs ys j x at
