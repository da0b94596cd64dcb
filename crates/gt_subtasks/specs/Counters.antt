-- The fifteen counters of a task, counted afresh from its items.
use Rattle.std.specs.Prelude.{Bool, List, filter, length, sum_by, ℕ, ◌&&◌, ◌==◌}
use Rattle.gt_subtasks.specs.Item.{is_copied, is_directory, is_file, is_in_class, is_skipped_file, items_of, size_copied}
use Rattle.gt_subtasks.specs.declared.item.Class.TheVariants.{Canceled as CanceledClass, Expired as ExpiredClass, Failed as FailedClass, Pending as PendingClass, Retrying as RetryingClass, Skipped as SkippedClass, Succeeded as SucceededClass}
use Rattle.gt_subtasks.specs.declared.item.Item.{Item}
use Rattle.gt_types.specs.declared.reply.Counters.{Counters}
use Rattle.gt_values.specs.Capped.{capped}

-- how many items of the task pass the test
abbrev pub count_of : (Item → Bool) → ℕ → List Item → ℕ
count_of test task items = length (filter (λ item. (item.task == task) && test item) items)

-- what the items of the task have of it together
abbrev pub sum_of : (Item → ℕ) → ℕ → List Item → ℕ
sum_of amount task items = sum_by amount (items_of task items)

-- the counters of the task of this number; a sum that would pass 2^64 - 1 stays there
abbrev pub counters_of : ℕ → List Item → Counters
counters_of task items =
    record {
      total = length (items_of task items);
      pending = count_of (is_in_class PendingClass) task items;
      retrying = count_of (is_in_class RetryingClass) task items;
      succeeded = count_of (is_in_class SucceededClass) task items;
      expired = count_of (is_in_class ExpiredClass) task items;
      canceled = count_of (is_in_class CanceledClass) task items;
      failed = count_of (is_in_class FailedClass) task items;
      skipped_errors = count_of (is_in_class SkippedClass) task items;
      files = count_of (λ item. is_file item.state item.act) task items;
      directories = count_of (λ item. is_directory item.state item.act) task items;
      files_skipped = count_of (λ item. is_skipped_file item.state) task items;
      files_transferred = count_of is_copied task items;
      bytes_transferred = capped (sum_of size_copied task items);
      bytes_checksummed = capped (sum_of (λ item. item.checked) task items);
      faults = capped (sum_of (λ item. item.faults) task items);
    }
