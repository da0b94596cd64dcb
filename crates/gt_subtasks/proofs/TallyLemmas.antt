-- The numbers of a task after one more row, and after one is written anew.
use Rattle.std.proofs.Common.{Bool, List, Some, [], ap, arith, cond, false, length, refl, slice_get, slice_set, true, ℕ, ◌&&◌, ◌*◌, ◌+◌, ◌++◌, ◌-◌, ◌<◌, ◌==◌, ◌^◌, ◌∙◌, ◌∷◌, ◌≡◌, ◌≤◌}
use Rattle.std.specs.Prelude.{sum_by}
use Rattle.std.proofs.lemmas.List.Sums.{sum_by-cons}
use Rattle.gt_subtasks.specs.Counters.{count_of, sum_of}
use Rattle.gt_subtasks.specs.Item.{is_copied, is_directory, is_file, is_in_class, is_skipped_file, items_of, size_copied}
use Rattle.gt_subtasks.specs.Kept.{AreSmall, IsPart, IsSmall, IsWithin}
use Rattle.gt_subtasks.specs.Tally.{bit, share_of, tally_of}
use Rattle.gt_subtasks.specs.TallySums.{with_share, without_share}
use Rattle.gt_subtasks.specs.declared.item.Class.TheVariants.{Canceled as CanceledClass, Expired as ExpiredClass, Failed as FailedClass, Pending as PendingClass, Retrying as RetryingClass, Skipped as SkippedClass, Succeeded as SucceededClass}
use Rattle.gt_subtasks.specs.declared.item.Item.{Item}
use Rattle.gt_subtasks.proofs.Counting.{count_part, count_push, count_set, count_within, one_if, sum_part, sum_push, sum_set}

-- whether a row is of the task
abbrev mine : ℕ → Item → Bool
mine task item = item.task == task

-- whether it is of the task and passes
abbrev counted : (Item → Bool) → ℕ → Item → Bool
counted test task item = (item.task == task) && test item

-- what a row adds, if it is of the task
joined : (own b : Bool) → one_if (own && b) ≡ cond own (bit b) 0
joined true true = refl
joined true false = refl
joined false b = refl

one_counted : (test : Item → Bool) (task : ℕ) (x : Item) (own : Bool) → (x.task == task) ≡ own → one_if (counted test task x) ≡ cond own (bit (test x)) 0
one_counted test task x own e = ap (λ b. one_if (b && test x)) e ∙ joined own (test x)

module _ (task : ℕ) (rows : List Item) (x : Item) where
  count_more : (own : Bool) → (x.task == task) ≡ own → (test : Item → Bool) → count_of test task (rows ++ x ∷ []) ≡ count_of test task rows + cond own (bit (test x)) 0
  count_more own e test = count_push (counted test task) rows x ∙ ap (λ n. count_of test task rows + n) (one_counted test task x own e)

  total_more : (own : Bool) → (x.task == task) ≡ own → length (items_of task (rows ++ x ∷ [])) ≡ length (items_of task rows) + cond own 1 0
  total_more own e = count_push (mine task) rows x ∙ ap (λ b. length (items_of task rows) + one_if b) e

  sum_more : (own : Bool) → (x.task == task) ≡ own → (f : Item → ℕ) → sum_of f task (rows ++ x ∷ []) ≡ sum_of f task rows + cond own (f x) 0
  sum_more own e f = sum_push (mine task) f rows x ∙ ap (λ b. sum_of f task rows + cond b (f x) 0) e

  -- a row of the task adds its share
  pub tally_push_own : (x.task == task) ≡ true → tally_of task (rows ++ x ∷ []) ≡ with_share (tally_of task rows) (share_of x)
  tally_push_own e = λ i. record {
    total = total_more true e i;
    pending = count_more true e (is_in_class PendingClass) i;
    retrying = count_more true e (is_in_class RetryingClass) i;
    succeeded = count_more true e (is_in_class SucceededClass) i;
    expired = count_more true e (is_in_class ExpiredClass) i;
    canceled = count_more true e (is_in_class CanceledClass) i;
    failed = count_more true e (is_in_class FailedClass) i;
    skipped_errors = count_more true e (is_in_class SkippedClass) i;
    files = count_more true e (λ (item : Item). is_file item.state item.act) i;
    directories = count_more true e (λ (item : Item). is_directory item.state item.act) i;
    files_skipped = count_more true e (λ (item : Item). is_skipped_file item.state) i;
    files_transferred = count_more true e is_copied i;
    bytes_transferred = sum_more true e size_copied i;
    bytes_checksummed = sum_more true e (λ (item : Item). item.checked) i;
    faults = sum_more true e (λ (item : Item). item.faults) i;
  }

  none_more : (n m : ℕ) → n ≡ m + 0 → n ≡ m
  none_more n m e = omega (arith, e)

  -- a row of another task adds nothing
  pub tally_push_other : (x.task == task) ≡ false → tally_of task (rows ++ x ∷ []) ≡ tally_of task rows
  tally_push_other e = λ i. record {
    total = none_more _ _ (total_more false e) i;
    pending = none_more _ _ (count_more false e (is_in_class PendingClass)) i;
    retrying = none_more _ _ (count_more false e (is_in_class RetryingClass)) i;
    succeeded = none_more _ _ (count_more false e (is_in_class SucceededClass)) i;
    expired = none_more _ _ (count_more false e (is_in_class ExpiredClass)) i;
    canceled = none_more _ _ (count_more false e (is_in_class CanceledClass)) i;
    failed = none_more _ _ (count_more false e (is_in_class FailedClass)) i;
    skipped_errors = none_more _ _ (count_more false e (is_in_class SkippedClass)) i;
    files = none_more _ _ (count_more false e (λ (item : Item). is_file item.state item.act)) i;
    directories = none_more _ _ (count_more false e (λ (item : Item). is_directory item.state item.act)) i;
    files_skipped = none_more _ _ (count_more false e (λ (item : Item). is_skipped_file item.state)) i;
    files_transferred = none_more _ _ (count_more false e is_copied) i;
    bytes_transferred = none_more _ _ (sum_more false e size_copied) i;
    bytes_checksummed = none_more _ _ (sum_more false e (λ (item : Item). item.checked)) i;
    faults = none_more _ _ (sum_more false e (λ (item : Item). item.faults)) i;
  }

module _ (task : ℕ) (rows : List Item) (k : ℕ) (x : Item) (at : slice_get rows k ≡ Some x) where
  count_at : (x.task == task) ≡ true → (test : Item → Bool) → bit (test x) ≤ count_of test task rows
  count_at e test = omega (arith, count_part (counted test task) rows k x at, one_counted test task x true e)

  total_at : (x.task == task) ≡ true → 1 ≤ length (items_of task rows)
  total_at e = omega (arith, count_part (mine task) rows k x at, ap one_if e)

  sum_at : (x.task == task) ≡ true → (f : Item → ℕ) → f x ≤ sum_of f task rows
  sum_at e f = omega (arith, sum_part (mine task) f rows k x at, ap (λ b. cond b (f x) 0) e)

  -- the share of a row is a part of its task's numbers
  pub share_is_part : (x.task == task) ≡ true → IsPart (share_of x) (tally_of task rows)
  share_is_part e = record {
    total = total_at e;
    pending = count_at e (is_in_class PendingClass);
    retrying = count_at e (is_in_class RetryingClass);
    succeeded = count_at e (is_in_class SucceededClass);
    expired = count_at e (is_in_class ExpiredClass);
    canceled = count_at e (is_in_class CanceledClass);
    failed = count_at e (is_in_class FailedClass);
    skipped_errors = count_at e (is_in_class SkippedClass);
    files = count_at e (λ (item : Item). is_file item.state item.act);
    directories = count_at e (λ (item : Item). is_directory item.state item.act);
    files_skipped = count_at e (λ (item : Item). is_skipped_file item.state);
    files_transferred = count_at e is_copied;
    bytes_transferred = sum_at e size_copied;
    bytes_checksummed = sum_at e (λ (item : Item). item.checked);
    faults = sum_at e (λ (item : Item). item.faults);
  }

  module _ (y : Item) where
    moved : (n m a b c d : ℕ) → n + a ≡ m + b → a ≡ c → b ≡ d → c ≤ m → n ≡ m - c + d
    moved n m a b c d e own next part = omega (arith, e, own, next, part)

    stays : (n m a b : ℕ) → n + a ≡ m + b → a ≡ 0 → b ≡ 0 → n ≡ m
    stays n m a b e own next = omega (arith, e, own, next)

    count_moved : (x.task == task) ≡ true → (y.task == task) ≡ true → (test : Item → Bool)
        → count_of test task (slice_set rows k y) ≡ count_of test task rows - bit (test x) + bit (test y)
    count_moved e h test =
        moved _ _ _ _ _ _ (count_set (counted test task) rows k x y at) (one_counted test task x true e) (one_counted test task y true h) (count_at e test)

    sum_moved : (x.task == task) ≡ true → (y.task == task) ≡ true → (f : Item → ℕ)
        → sum_of f task (slice_set rows k y) ≡ sum_of f task rows - f x + f y
    sum_moved e h f =
        moved _ _ _ _ _ _ (sum_set (mine task) f rows k x y at) (ap (λ b. cond b (f x) 0) e) (ap (λ b. cond b (f y) 0) h) (sum_at e f)

    -- a row of the task is written anew: its old share goes, and its new one comes
    pub tally_set_own : (x.task == task) ≡ true → (y.task == task) ≡ true
        → tally_of task (slice_set rows k y) ≡ with_share (without_share (tally_of task rows) (share_of x)) (share_of y)
    tally_set_own e h = λ i. record {
      total = moved _ _ _ _ _ _ (count_set (mine task) rows k x y at) (ap one_if e) (ap one_if h) (total_at e) i;
      pending = count_moved e h (is_in_class PendingClass) i;
      retrying = count_moved e h (is_in_class RetryingClass) i;
      succeeded = count_moved e h (is_in_class SucceededClass) i;
      expired = count_moved e h (is_in_class ExpiredClass) i;
      canceled = count_moved e h (is_in_class CanceledClass) i;
      failed = count_moved e h (is_in_class FailedClass) i;
      skipped_errors = count_moved e h (is_in_class SkippedClass) i;
      files = count_moved e h (λ (item : Item). is_file item.state item.act) i;
      directories = count_moved e h (λ (item : Item). is_directory item.state item.act) i;
      files_skipped = count_moved e h (λ (item : Item). is_skipped_file item.state) i;
      files_transferred = count_moved e h is_copied i;
      bytes_transferred = sum_moved e h size_copied i;
      bytes_checksummed = sum_moved e h (λ (item : Item). item.checked) i;
      faults = sum_moved e h (λ (item : Item). item.faults) i;
    }

    count_stays : (x.task == task) ≡ false → (y.task == task) ≡ false → (test : Item → Bool)
        → count_of test task (slice_set rows k y) ≡ count_of test task rows
    count_stays e h test =
        stays _ _ _ _ (count_set (counted test task) rows k x y at) (one_counted test task x false e) (one_counted test task y false h)

    sum_stays : (x.task == task) ≡ false → (y.task == task) ≡ false → (f : Item → ℕ)
        → sum_of f task (slice_set rows k y) ≡ sum_of f task rows
    sum_stays e h f =
        stays _ _ _ _ (sum_set (mine task) f rows k x y at) (ap (λ b. cond b (f x) 0) e) (ap (λ b. cond b (f y) 0) h)

    -- a row of another task is written anew
    pub tally_set_other : (x.task == task) ≡ false → (y.task == task) ≡ false → tally_of task (slice_set rows k y) ≡ tally_of task rows
    tally_set_other e h = λ i. record {
      total = stays _ _ _ _ (count_set (mine task) rows k x y at) (ap one_if e) (ap one_if h) i;
      pending = count_stays e h (is_in_class PendingClass) i;
      retrying = count_stays e h (is_in_class RetryingClass) i;
      succeeded = count_stays e h (is_in_class SucceededClass) i;
      expired = count_stays e h (is_in_class ExpiredClass) i;
      canceled = count_stays e h (is_in_class CanceledClass) i;
      failed = count_stays e h (is_in_class FailedClass) i;
      skipped_errors = count_stays e h (is_in_class SkippedClass) i;
      files = count_stays e h (λ (item : Item). is_file item.state item.act) i;
      directories = count_stays e h (λ (item : Item). is_directory item.state item.act) i;
      files_skipped = count_stays e h (λ (item : Item). is_skipped_file item.state) i;
      files_transferred = count_stays e h is_copied i;
      bytes_transferred = sum_stays e h size_copied i;
      bytes_checksummed = sum_stays e h (λ (item : Item). item.checked) i;
      faults = sum_stays e h (λ (item : Item). item.faults) i;
    }

-- sums of small numbers are small
sum_within : (f : Item → ℕ) → ((x : Item) → IsSmall x → f x < 2 ^ 64) → (task : ℕ) (rows : List Item) → AreSmall rows → sum_of f task rows ≤ length rows * 2 ^ 64
sum_within f few task [] small = omega arith
sum_within f few task (x ∷ rows) small = omega (arith, of_head (x.task == task), sum_within f few task rows small.1, few x small.0)
  where
    of_head : (own : Bool) → sum_by f (cond own (x ∷ items_of task rows) (items_of task rows)) ≤ f x + sum_of f task rows
    of_head true = omega (arith, sum_by-cons f x (items_of task rows))
    of_head false = omega arith

module _ (task : ℕ) (rows : List Item) (small : AreSmall rows) (few : length rows < 2 ^ 32) where
  count_few : (test : Item → Bool) → count_of test task rows ≤ 2 ^ 32
  count_few test = omega (arith, few, count_within (counted test task) rows)

  sum_few : (f : Item → ℕ) → ((x : Item) → IsSmall x → f x < 2 ^ 64) → sum_of f task rows ≤ 2 ^ 96
  sum_few f each = omega (arith, few, sum_within f each task rows small)

  pub tally_within : IsWithin (2 ^ 32) (2 ^ 96) (tally_of task rows)
  tally_within = record {
    total = omega (arith, few, count_within (mine task) rows);
    pending = count_few (is_in_class PendingClass);
    retrying = count_few (is_in_class RetryingClass);
    succeeded = count_few (is_in_class SucceededClass);
    expired = count_few (is_in_class ExpiredClass);
    canceled = count_few (is_in_class CanceledClass);
    failed = count_few (is_in_class FailedClass);
    skipped_errors = count_few (is_in_class SkippedClass);
    files = count_few (λ (item : Item). is_file item.state item.act);
    directories = count_few (λ (item : Item). is_directory item.state item.act);
    files_skipped = count_few (λ (item : Item). is_skipped_file item.state);
    files_transferred = count_few is_copied;
    bytes_transferred = sum_few size_copied (λ x is. is.size);
    bytes_checksummed = sum_few (λ (item : Item). item.checked) (λ x is. is.checked);
    faults = sum_few (λ (item : Item). item.faults) (λ x is. is.faults);
  }
