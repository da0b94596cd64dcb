-- The task of an owner and a submission identifier, after each change of the rows.
use Rattle.std.proofs.Common.{Bool, List, None, Option, Some, [], ap, arith, cond, false, find, refl, length, slice_get, slice_set, suc, sym, true, zero, ℕ, ◌&&◌, ◌+◌, ◌++◌, ◌<◌, ◌^◌, ◌-◌, ◌∙◌, ◌∷◌, ◌≡◌, ◌≤◌}
use Rattle.std.specs.HashMap.{HashMap, get, spare}
use Rattle.std.specs.Option.{option_map, option_or}
use Rattle.std.proofs.lemmas.List.{length-set}
use Rattle.std.proofs.lemmas.List.Folds.{find-append}
use Rattle.std.proofs.lemmas.Slice.Eq.{bytes_eq-Decides}
use Rattle.std.specs.Str.{bytes_eq}
use Rattle.gt_values.specs.Rows.{row_at}
use Rattle.gt_tasks.specs.Found.{IsFiled, Key}
use Rattle.gt_tasks.specs.Tasks.{is_of, number_of}
use Rattle.gt_tasks.specs.declared.row.TaskRow.{TaskRow}

and_left : (a b : Bool) → (a && b) ≡ true → a ≡ true
and_left true b is = refl
and_left false b is = is

and_right : (a b : Bool) → (a && b) ≡ true → b ≡ true
and_right true b is = is
and_right false b is = cc

-- a row that says the same of who made the task, under the same number
pub record IsSameTask (row next : TaskRow) : Type 0 where
  pub owner : next.owner ≡ row.owner
  pub submission : next.submission ≡ row.submission
  pub number : next.number ≡ row.number

module _ (owner submission : List ℕ) where
  of_test : (b : Bool) (row next : TaskRow) (rest later : Option TaskRow) → next.number ≡ row.number
      → option_map (λ r. r.number) later ≡ option_map (λ r. r.number) rest
      → option_map (λ r. r.number) (cond b (Some next) later) ≡ option_map (λ r. r.number) (cond b (Some row) rest)
  of_test true row next rest later same others = ap Some same
  of_test false row next rest later same others = others

  is_same : (row next : TaskRow) → IsSameTask row next → is_of owner submission next ≡ is_of owner submission row
  is_same row next same =
      ap (λ o. bytes_eq o owner && bytes_eq next.submission submission) same.owner
      ∙ ap (λ s. bytes_eq row.owner owner && bytes_eq s submission) same.submission

  pub number_of-set : (rows : List TaskRow) (k : ℕ) (row next : TaskRow) → slice_get rows k ≡ Some row → IsSameTask row next
      → number_of owner submission (slice_set rows k next) ≡ number_of owner submission rows
  number_of-set [] k row next at same = refl
  number_of-set (x ∷ rows) zero row next at same =
      let e : x ≡ row = cc in
      let rest : Option TaskRow = find (is_of owner submission) rows in
      ap (λ b. option_map (λ r. r.number) (cond b (Some next) rest)) (is_same row next same)
      ∙ of_test (is_of owner submission row) row next rest rest same.number refl
      ∙ ap (λ (r : TaskRow). option_map (λ r. r.number) (cond (is_of owner submission r) (Some r) rest)) (sym e)
  number_of-set (x ∷ rows) (suc k) row next at same =
      of_test (is_of owner submission x) x x (find (is_of owner submission) rows) (find (is_of owner submission) (slice_set rows k next)) refl
      (number_of-set rows k row next at same)

  -- the task is found as before where its row is written anew
  pub number_of-written : (rows : List TaskRow) (number : ℕ) (row next : TaskRow) → row_at rows number ≡ Some row → IsSameTask row next
      → number_of owner submission (slice_set rows (number - 1) next) ≡ number_of owner submission rows
  number_of-written rows zero row next at same = cc
  number_of-written rows (suc k) row next at same =
      let place : suc k - 1 ≡ k = omega arith in
      ap (λ i. number_of owner submission (slice_set rows i next)) place ∙ number_of-set rows k row next at same

  pushed : (b : Bool) (row : TaskRow) (n : ℕ) (found : Option TaskRow) → row.number ≡ n → (b ≡ true → option_map (λ r. r.number) found ≡ None)
      → cond b (Some n) (option_map (λ r. r.number) found) ≡ option_map (λ r. r.number) (option_or found (cond b (Some row) None))
  pushed true row n None number new = ap Some (sym number)
  pushed true row n (Some r) number new = let e : Some r.number ≡ None = new refl in cc
  pushed false row n None number new = refl
  pushed false row n (Some r) number new = refl

  -- a row more is found by its owner and submission identifier, where none was, and each other as before
  pub number_of-push : (rows : List TaskRow) (row : TaskRow) (n : ℕ) → row.number ≡ n → number_of row.owner row.submission rows ≡ None
      → cond (is_of owner submission row) (Some n) (number_of owner submission rows) ≡ number_of owner submission (rows ++ row ∷ [])
  number_of-push rows row n number new =
      pushed (is_of owner submission row) row n (find (is_of owner submission) rows) number own
      ∙ ap (option_map (λ r. r.number)) (sym (find-append (is_of owner submission) rows (row ∷ [])))
    where
      own : is_of owner submission row ≡ true → number_of owner submission rows ≡ None
      own is =
          let a : row.owner ≡ owner = (bytes_eq-Decides row.owner owner).0 (and_left (bytes_eq row.owner owner) (bytes_eq row.submission submission) is) in
          let b : row.submission ≡ submission = (bytes_eq-Decides row.submission submission).0 (and_right (bytes_eq row.owner owner) (bytes_eq row.submission submission) is) in
          rw (a, b) at new

-- the index stays where a row is written anew
pub filed_written : {S : Type 0} (same : Key → Key → Bool) (rows : List TaskRow) (capacity : ℕ) (found : HashMap Key ℕ S) (room number : ℕ) (row next : TaskRow)
    → IsFiled same rows capacity found room → row_at rows number ≡ Some row → IsSameTask row next
    → IsFiled same (slice_set rows (number - 1) next) capacity found room
filed_written same rows capacity found room number row next is at kept =
    record {
      numbers = λ owner submission. is.numbers owner submission ∙ sym (number_of-written owner submission rows number row next at kept);
      reserved = is.reserved;
      free = is.free;
      few = omega (arith, is.few, length-set rows (number - 1) next);
    }

-- the index stays where more room was taken
pub filed_reserved : {S : Type 0} (same : Key → Key → Bool) (rows : List TaskRow) (capacity : ℕ) (found : HashMap Key ℕ S) (room : ℕ) → IsFiled same rows capacity found room
    → (after : List TaskRow) (capacity_after : ℕ) (found_after : HashMap Key ℕ S) (room_after : ℕ) → after ≡ rows
    → ((key : Key) → get same found_after key ≡ get same found key) → room_after ≤ capacity_after → room_after ≤ spare found_after → length rows + room_after < 2 ^ 64
    → IsFiled same after capacity_after found_after room_after
filed_reserved same rows capacity found room is after capacity_after found_after room_after rows_are entries reserved free few =
    rw rows_are
    (record {
      numbers = λ owner submission. entries (owner, submission) ∙ is.numbers owner submission;
      reserved = reserved;
      free = free;
      few = few;
    })
