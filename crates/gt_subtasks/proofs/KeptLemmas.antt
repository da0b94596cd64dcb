-- The indexes of items after each change.
use Rattle.std.proofs.Common.{Bool, List, None, Option, Some, [], ap, arith, cond, false, length, refl, slice_get, slice_set, suc, sym, true, zero, ℕ, ◌+◌, ◌++◌, ◌-◌, ◌<◌, ◌==◌, ◌^◌, ◌∙◌, ◌∷◌, ◌≡◌, ◌≤◌}
use Rattle.std.specs.HashMap.{HashMap, get, spare}
use Rattle.std.specs.Ordering.{nat_cmp}
use Rattle.std.specs.Prelude.{IsSome, nat_eq, unwrap_or}
use Rattle.std.proofs.lemmas.Bool.{eq-eqb}
use Rattle.std.proofs.lemmas.Bool.Decides.{Decides-eqb}
use Rattle.std.proofs.lemmas.List.{length-set, length_push}
use Rattle.gt_index.specs.Index.{IsFiled}
use Rattle.gt_index.specs.Places.{Places}
use Rattle.gt_values.specs.Rows.{row_at}
use Rattle.gt_subtasks.specs.Item.{items_of}
use Rattle.gt_subtasks.specs.Kept.{AreSmall, IsKept, IsSmall, kept_tally}
use Rattle.gt_subtasks.specs.Tally.{no_items, share_of, tally_of}
use Rattle.gt_subtasks.specs.TallySums.{with_share, without_share}
use Rattle.gt_subtasks.specs.declared.item.Item.{Item}
use Rattle.gt_subtasks.specs.declared.tally.Tally.{Tally}
use Rattle.gt_subtasks.proofs.IndexLemmas.{differs_push, index_same, key_set, pushed_there}
use Rattle.gt_subtasks.proofs.TallyLemmas.{tally_push_other, tally_push_own, tally_set_other, tally_set_own}

-- the place of a row
pub row_place : (rows : List Item) (number : ℕ) (row : Item) → row_at rows number ≡ Some row → slice_get rows (number - 1) ≡ Some row
row_place rows zero row at = cc
row_place rows (suc k) row at = let place : suc k - 1 ≡ k = omega arith in ap (slice_get rows) place ∙ at

small_push : (rows : List Item) (x : Item) → AreSmall rows → IsSmall x → AreSmall (rows ++ x ∷ [])
small_push [] x small one = (one, tt)
small_push (y ∷ rows) x small one = (small.0, small_push rows x small.1 one)

small_set : (rows : List Item) (k : ℕ) (y : Item) → AreSmall rows → IsSmall y → AreSmall (slice_set rows k y)
small_set [] k y small one = tt
small_set (x ∷ rows) zero y small one = (one, small.1)
small_set (x ∷ rows) (suc k) y small one = (small.0, small_set rows k y small.1 one)

module _ {S : Type 0} (old new : HashMap ℕ Tally S) (task : ℕ) (tally : Tally)
    (put : (q : ℕ) → get nat_eq new q ≡ cond (nat_eq task q) (Some tally) (get nat_eq old q)) where
  kept_own : (q : ℕ) → (task == q) ≡ true → kept_tally new q ≡ tally
  kept_own q e = ap (λ o. unwrap_or o no_items) (put q ∙ ap (λ b. cond b (Some tally) (get nat_eq old q)) e)

  kept_other : (q : ℕ) → (task == q) ≡ false → kept_tally new q ≡ kept_tally old q
  kept_other q e = ap (λ o. unwrap_or o no_items) (put q ∙ ap (λ b. cond b (Some tally) (get nat_eq old q)) e)

  -- the tallies are exact again where that of one task is put, and the others' rows are as before
  pub exact_put : (rows after : List Item) → ((q : ℕ) → kept_tally old q ≡ tally_of q rows) → tally_of task after ≡ tally
      → ((q : ℕ) → (task == q) ≡ false → tally_of q after ≡ tally_of q rows) → (q : ℕ) → kept_tally new q ≡ tally_of q after
  exact_put rows after exact own others q = of_test (task == q) refl
    where
      of_test : (b : Bool) → (task == q) ≡ b → kept_tally new q ≡ tally_of q after
      of_test true e = kept_own q e ∙ sym own ∙ ap (λ t. tally_of t after) ((Decides-eqb task q).0 e)
      of_test false e = kept_other q e ∙ exact q ∙ sym (others q e)

module _ {S : Type 0} (rows : List Item) (capacity : ℕ) (by_task : Places) (tallies : HashMap ℕ Tally S) (room : ℕ) (is : IsKept rows capacity by_task tallies room) where
  -- a row more
  pub kept_push : (x : Item) (place : ℕ) (after now : List Item) (capacity_after : ℕ) (by_task_after : Places) (tallies_after : HashMap ℕ Tally S) (left : ℕ)
      → place ≡ length rows → after ≡ rows ++ x ∷ [] → now ≡ after → IsSmall x
      → ((q : ℕ) → get nat_eq tallies_after q ≡ cond (nat_eq x.task q) (Some (with_share (tally_of x.task rows) (share_of x))) (get nat_eq tallies q))
      → spare tallies ≤ spare tallies_after + 1
      → IsFiled nat_cmp (λ item. item.task) true place now by_task.places by_task_after.places → by_task.spare ≤ by_task_after.spare + 1
      → capacity ≤ capacity_after + 1 → left + 1 ≡ room → IsKept after capacity_after by_task_after tallies_after left
  kept_push x place after now capacity_after by_task_after tallies_after left end after_is now_is small put free filed places wide one =
      let filed_at : IsFiled nat_cmp (λ item. item.task) true (length rows) (rows ++ x ∷ []) by_task.places by_task_after.places =
      rw (now_is, after_is, end) at filed in
      let own : (x.task == x.task) ≡ true = eq-eqb x.task x.task refl in
      let result : IsKept (rows ++ x ∷ []) capacity_after by_task_after tallies_after left =
      record {
        index = filed_at (λ item. true) rows is.index (differs_push (λ item. item.task) (λ item. true) rows x) (rw (pushed_there (λ (item : Item). item.task) rows x) refl);
        exact = exact_put tallies tallies_after x.task _ put rows (rows ++ x ∷ []) is.exact (tally_push_own x.task rows x own) (λ q e. tally_push_other q rows x e);
        small = small_push rows x is.small small;
        reserved = omega (arith, is.reserved);
        places = omega (arith, is.places);
        free = omega (arith, is.free);
        few = omega (arith, is.few, length_push rows x);
      } in
      rw after_is result

  -- a row written anew, under its task
  pub kept_set : (k : ℕ) (x y : Item) (tallies_after : HashMap ℕ Tally S) → slice_get rows k ≡ Some x → y.task ≡ x.task → IsSmall y
      → ((q : ℕ) → get nat_eq tallies_after q ≡ cond (nat_eq x.task q) (Some (with_share (without_share (tally_of x.task rows) (share_of x)) (share_of y))) (get nat_eq tallies q))
      → room ≤ spare tallies_after → IsKept (slice_set rows k y) capacity by_task tallies_after room
  kept_set k x y tallies_after at same small put free =
      let own : (x.task == x.task) ≡ true = eq-eqb x.task x.task refl in
      record {
        index = index_same (λ item. item.task) nat_cmp rows (slice_set rows k y) by_task.places (key_set (λ item. item.task) rows k x y at same) is.index;
        exact = exact_put tallies tallies_after x.task _ put rows (slice_set rows k y) is.exact
            (tally_set_own x.task rows k x at y own (ap (λ t. t == x.task) same ∙ own)) (λ q e. tally_set_other q rows k x at y e (ap (λ t. t == q) same ∙ e));
        small = small_set rows k y is.small small;
        reserved = is.reserved;
        places = is.places;
        free = free;
        few = omega (arith, is.few, length-set rows k y);
      }

  -- more room
  pub kept_reserved : (after : List Item) (capacity_after : ℕ) (by_task_after : Places) (tallies_after : HashMap ℕ Tally S) (room_after : ℕ) → after ≡ rows
      → by_task_after.places ≡ by_task.places → ((q : ℕ) → get nat_eq tallies_after q ≡ get nat_eq tallies q) → room_after ≤ capacity_after
      → room_after ≤ by_task_after.spare → room_after ≤ spare tallies_after → length rows + room_after < 2 ^ 32
      → IsKept after capacity_after by_task_after tallies_after room_after
  kept_reserved after capacity_after by_task_after tallies_after room_after after_is same_places entries reserved places free few =
      rw after_is
      (record {
        index = rw same_places is.index;
        exact = λ q. ap (λ o. unwrap_or o no_items) (entries q) ∙ is.exact q;
        small = is.small;
        reserved = reserved;
        places = places;
        free = free;
        few = few;
      })

-- a task with an item has a tally
pub has_tally : {S : Type 0} (tallies : HashMap ℕ Tally S) (rows : List Item) (task : ℕ) → kept_tally tallies task ≡ tally_of task rows → 1 ≤ length (items_of task rows)
    → IsSome (get nat_eq tallies task)
has_tally tallies rows task exact some = of_found (get nat_eq tallies task) exact
  where
    of_found : (found : Option Tally) → unwrap_or found no_items ≡ tally_of task rows → IsSome found
    of_found None e = absurd (let none : 0 ≡ length (items_of task rows) = ap (λ t. t.total) e in omega (arith, none, some))
    of_found (Some tally) e = refl
