-- An index of rows by their keys, after one more row and after one is written anew under its key.
use Rattle.std.proofs.Common.{Bool, List, None, Option, Some, [], ap, false, length, refl, slice_get, slice_set, suc, sym, true, zero, ℕ, ◌+◌, ◌++◌, ◌∙◌, ◌∷◌, ◌≡◌, ◌≢◌}
use Rattle.std.specs.List.{list_all}
use Rattle.std.specs.Option.{option_map, option_map_or}
use Rattle.std.specs.declared.cmp.Ordering.{Ordering}
use Rattle.gt_index.specs.Index.{DiffersAt, IsIndex, Rises, is_before, key_at, passes_at, places_from}

-- rows with one more
module _ {X K : Type 0} (key : X → K) where
  push_other : (rows : List X) (row : X) (other : ℕ) → other ≢ length rows → slice_get (rows ++ row ∷ []) other ≡ slice_get rows other
  push_other [] row zero differs = absurd (differs refl)
  push_other [] row (suc other) differs = refl
  push_other (x ∷ rows) row zero differs = refl
  push_other (x ∷ rows) row (suc other) differs = push_other rows row other (λ e. differs (ap suc e))

  past_end : (rows : List X) → slice_get rows (length rows) ≡ None
  past_end [] = refl
  past_end (x ∷ rows) = past_end rows

  pub pushed_there : (rows : List X) (row : X) → slice_get (rows ++ row ∷ []) (length rows) ≡ Some row
  pushed_there [] row = refl
  pushed_there (x ∷ rows) row = pushed_there rows row

  pub differs_push : (keeps : X → Bool) (rows : List X) (row : X) → DiffersAt key keeps (length rows) rows (rows ++ row ∷ [])
  differs_push keeps rows row =
      record {
        others = push_other rows row;
        same_key = λ kept. let none : passes_at keeps rows (length rows) ≡ false = rw (past_end rows) refl in cc;
      }

  -- a row written anew under its key
  pub key_set : (rows : List X) (k : ℕ) (x y : X) → slice_get rows k ≡ Some x → key y ≡ key x → (place : ℕ)
      → key_at key (slice_set rows k y) place ≡ key_at key rows place
  key_set [] k x y at same place = refl
  key_set (z ∷ rows) zero x y at same zero = let e : z ≡ x = cc in ap Some (same ∙ ap key (sym e))
  key_set (z ∷ rows) zero x y at same (suc place) = refl
  key_set (z ∷ rows) (suc k) x y at same zero = refl
  key_set (z ∷ rows) (suc k) x y at same (suc place) = key_set rows k x y at same place

  all_before : (cmp : K → K → Ordering) (f g : ℕ → Option K) → ((place : ℕ) → g place ≡ f place) → (a : ℕ) (places : List ℕ)
      → list_all (is_before cmp g a) places ≡ list_all (is_before cmp f a) places
  all_before cmp f g same a [] = refl
  all_before cmp f g same a (b ∷ places) = rw (same a, same b, all_before cmp f g same a places) refl

  rises_same : (cmp : K → K → Ordering) (f g : ℕ → Option K) → ((place : ℕ) → g place ≡ f place) → (places : List ℕ) → Rises cmp f places → Rises cmp g places
  rises_same cmp f g same [] rises = tt
  rises_same cmp f g same (a ∷ places) rises = (all_before cmp f g same a places ∙ rises.0, rises_same cmp f g same places rises.1)

  there : (found : Option X) → option_map_or (λ row. true) found false ≡ option_map_or (λ k. true) (option_map key found) false
  there None = refl
  there (Some row) = refl

  -- an index of all rows stays where no key changes
  pub index_same : (cmp : K → K → Ordering) (rows after : List X) (places : List ℕ) → ((place : ℕ) → key_at key after place ≡ key_at key rows place)
      → IsIndex cmp key (λ row. true) rows places → IsIndex cmp key (λ row. true) after places
  index_same cmp rows after places same is =
      record {
        rising = rises_same cmp (key_at key rows) (key_at key after) same places is.rising;
        members = λ place.
            is.members place ∙ there (slice_get rows place) ∙ ap (λ (found : Option K). option_map_or (λ k. true) found false) (sym (same place))
            ∙ sym (there (slice_get after place));
      }

pub places_agree : {X : Type 0} (n : ℕ) (p q : X → Bool) (rows : List X) → ((row : X) → p row ≡ q row) → places_from n p rows ≡ places_from n q rows
places_agree n p q [] same = refl
places_agree n p q (row ∷ rows) same = rw (same row, places_agree (n + 1) p q rows same) refl
