-- Items: their states, the classes in which they are counted, and what they came to.
use Rattle.std.specs.Option.{option_map_or}
use Rattle.std.specs.Prelude.{Bool, List, None, Option, Some, false, filter, is_some, true, ℕ, ◌==◌}
use Rattle.gt_subtasks.specs.declared.item.Class.{Class}
use Rattle.gt_subtasks.specs.declared.item.Class.TheVariants.{Canceled as CanceledClass, Expired as ExpiredClass, Failed as FailedClass, Pending as PendingClass, Retrying as RetryingClass, Skipped as SkippedClass, Succeeded as SucceededClass}
use Rattle.gt_subtasks.specs.declared.item.How.TheVariants.{Copied as ByCopying, Expanded as ByExpanding, Present as ByPresence, Removed as ByRemoval}
use Rattle.gt_subtasks.specs.declared.item.Item.{Item}
use Rattle.gt_subtasks.specs.declared.item.ItemState.{ItemState}
use Rattle.gt_subtasks.specs.declared.item.ItemState.TheVariants.{Canceled, Expired, Failed, Pending, Retrying, Running, Skipped, Succeeded}
use Rattle.gt_types.specs.declared.act.Act.{Act}
use Rattle.gt_types.specs.declared.act.Act.TheVariants.{Erase, RemoveFolder}
use Rattle.gt_types.specs.declared.outcome.Evidence.{Evidence}

-- as what an item in this state is counted
abbrev pub class_of : ItemState → Class
class_of Pending = PendingClass
class_of (Running worker grant) = PendingClass
class_of Retrying = RetryingClass
class_of (Succeeded how) = SucceededClass
class_of (Failed code) = FailedClass
class_of (Skipped code) = SkippedClass
class_of Canceled = CanceledClass
class_of Expired = ExpiredClass

-- a number for each class
abbrev pub class_number : Class → ℕ
class_number PendingClass = 0
class_number RetryingClass = 1
class_number SucceededClass = 2
class_number ExpiredClass = 3
class_number CanceledClass = 4
class_number FailedClass = 5
class_number SkippedClass = 6

-- whether the item is counted so
abbrev pub is_in_class : Class → Item → Bool
is_in_class class item = class_number (class_of item.state) == class_number class

-- whether an item in this state has ended
abbrev pub has_ended : ItemState → Bool
has_ended Pending = false
has_ended (Running worker grant) = false
has_ended Retrying = false
has_ended (Succeeded how) = true
has_ended (Failed code) = true
has_ended (Skipped code) = true
has_ended Canceled = true
has_ended Expired = true

-- whether an item in this state is tried again
abbrev pub is_retrying : ItemState → Bool
is_retrying Retrying = true
is_retrying _ = false

-- the event that gave an item in this state to a worker
abbrev pub grant_of : ItemState → Option ℕ
grant_of (Running worker grant) = Some grant
grant_of _ = None

-- what the item copied
abbrev pub copy_of : ItemState → Option Evidence
copy_of (Succeeded (ByCopying evidence)) = Some evidence
copy_of _ = None

-- whether an item in this state, with this act, is counted as a file
abbrev pub is_file : ItemState → Act → Bool
is_file (Succeeded (ByCopying evidence)) act = true
is_file (Succeeded (ByPresence level)) act = true
is_file (Succeeded ByRemoval) (Erase path want) = true
is_file _ _ = false

-- whether it is counted as a directory
abbrev pub is_directory : ItemState → Act → Bool
is_directory (Succeeded ByExpanding) act = true
is_directory (Succeeded ByRemoval) (RemoveFolder path) = true
is_directory _ _ = false

-- whether it is a file that was left as it was
abbrev pub is_skipped_file : ItemState → Bool
is_skipped_file (Succeeded (ByPresence level)) = true
is_skipped_file _ = false

-- whether the item is a file that was copied
abbrev pub is_copied : Item → Bool
is_copied item = is_some (copy_of item.state)

-- how many bytes the item copied
abbrev pub size_copied : Item → ℕ
size_copied item = option_map_or (λ evidence. evidence.size) (copy_of item.state) 0

-- whether the item is of the task, and the items of the task
abbrev pub is_of_task : ℕ → Item → Bool
is_of_task task item = item.task == task

abbrev pub items_of : ℕ → List Item → List Item
items_of task items = filter (λ item. item.task == task) items
