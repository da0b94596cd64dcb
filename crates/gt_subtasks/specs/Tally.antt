-- The running numbers of a task, each exact.
use Rattle.std.specs.Prelude.{Bool, List, if◌then◌else◌, length, ℕ}
use Rattle.gt_subtasks.specs.Counters.{count_of, sum_of}
use Rattle.gt_subtasks.specs.Item.{is_copied, is_directory, is_file, is_in_class, is_skipped_file, items_of, size_copied}
use Rattle.gt_subtasks.specs.declared.item.Class.TheVariants.{Canceled as CanceledClass, Expired as ExpiredClass, Failed as FailedClass, Pending as PendingClass, Retrying as RetryingClass, Skipped as SkippedClass, Succeeded as SucceededClass}
use Rattle.gt_subtasks.specs.declared.item.Item.{Item}
use Rattle.gt_subtasks.specs.declared.tally.Tally.{Tally}

-- 1 if it is so, and else 0
abbrev pub bit : Bool → ℕ
bit b = if b then 1 else 0

-- the numbers of a task without items
abbrev pub no_items : Tally
no_items =
    record {
      total = 0;
      pending = 0;
      retrying = 0;
      succeeded = 0;
      expired = 0;
      canceled = 0;
      failed = 0;
      skipped_errors = 0;
      files = 0;
      directories = 0;
      files_skipped = 0;
      files_transferred = 0;
      bytes_transferred = 0;
      bytes_checksummed = 0;
      faults = 0;
    }

-- what one item adds to the numbers of its task
abbrev pub share_of : Item → Tally
share_of item =
    record {
      total = 1;
      pending = bit (is_in_class PendingClass item);
      retrying = bit (is_in_class RetryingClass item);
      succeeded = bit (is_in_class SucceededClass item);
      expired = bit (is_in_class ExpiredClass item);
      canceled = bit (is_in_class CanceledClass item);
      failed = bit (is_in_class FailedClass item);
      skipped_errors = bit (is_in_class SkippedClass item);
      files = bit (is_file item.state item.act);
      directories = bit (is_directory item.state item.act);
      files_skipped = bit (is_skipped_file item.state);
      files_transferred = bit (is_copied item);
      bytes_transferred = size_copied item;
      bytes_checksummed = item.checked;
      faults = item.faults;
    }

-- the numbers of the task, each exact
abbrev pub tally_of : ℕ → List Item → Tally
tally_of task items =
    record {
      total = length (items_of task items);
      pending = count_of (is_in_class PendingClass) task items;
      retrying = count_of (is_in_class RetryingClass) task items;
      succeeded = count_of (is_in_class SucceededClass) task items;
      expired = count_of (is_in_class ExpiredClass) task items;
      canceled = count_of (is_in_class CanceledClass) task items;
      failed = count_of (is_in_class FailedClass) task items;
      skipped_errors = count_of (is_in_class SkippedClass) task items;
      files = count_of (λ item. is_file item.state item.act) task items;
      directories = count_of (λ item. is_directory item.state item.act) task items;
      files_skipped = count_of (λ item. is_skipped_file item.state) task items;
      files_transferred = count_of is_copied task items;
      bytes_transferred = sum_of size_copied task items;
      bytes_checksummed = sum_of (λ item. item.checked) task items;
      faults = sum_of (λ item. item.faults) task items;
    }
