-- What the indexes of items hold.
use Rattle.std.specs.HashMap.{HashMap, get, spare}
use Rattle.std.specs.Ordering.{nat_cmp}
use Rattle.std.specs.Prelude.{List, [], length, nat_eq, true, unwrap_or, ℕ, ◌+◌, ◌<◌, ◌^◌, ◌∷◌, ◌≡◌, ◌≤◌}
use Rattle.gt_index.specs.Index.{IsIndex}
use Rattle.gt_index.specs.Places.{Places}
use Rattle.gt_subtasks.specs.Item.{size_copied}
use Rattle.gt_subtasks.specs.Tally.{no_items, tally_of}
use Rattle.gt_subtasks.specs.declared.item.Item.{Item}
use Rattle.gt_subtasks.specs.declared.tally.Tally.{Tally}

-- the numbers of an item are of 8 bytes at most
pub record IsSmall (item : Item) : Type 0 where
  pub size : size_copied item < 2 ^ 64
  pub checked : item.checked < 2 ^ 64
  pub faults : item.faults < 2 ^ 64

abbrev pub AreSmall : List Item → Type 0
AreSmall [] = Unit {0}
AreSmall (item ∷ items) = IsSmall item × AreSmall items

-- each count is at most the first number, and each sum at most the second
pub record IsWithin (count sum : ℕ) (tally : Tally) : Type 0 where
  pub total : tally.total ≤ count
  pub pending : tally.pending ≤ count
  pub retrying : tally.retrying ≤ count
  pub succeeded : tally.succeeded ≤ count
  pub expired : tally.expired ≤ count
  pub canceled : tally.canceled ≤ count
  pub failed : tally.failed ≤ count
  pub skipped_errors : tally.skipped_errors ≤ count
  pub files : tally.files ≤ count
  pub directories : tally.directories ≤ count
  pub files_skipped : tally.files_skipped ≤ count
  pub files_transferred : tally.files_transferred ≤ count
  pub bytes_transferred : tally.bytes_transferred ≤ sum
  pub bytes_checksummed : tally.bytes_checksummed ≤ sum
  pub faults : tally.faults ≤ sum

-- none of the first numbers is above its fellow among the second
pub record IsPart (one all : Tally) : Type 0 where
  pub total : one.total ≤ all.total
  pub pending : one.pending ≤ all.pending
  pub retrying : one.retrying ≤ all.retrying
  pub succeeded : one.succeeded ≤ all.succeeded
  pub expired : one.expired ≤ all.expired
  pub canceled : one.canceled ≤ all.canceled
  pub failed : one.failed ≤ all.failed
  pub skipped_errors : one.skipped_errors ≤ all.skipped_errors
  pub files : one.files ≤ all.files
  pub directories : one.directories ≤ all.directories
  pub files_skipped : one.files_skipped ≤ all.files_skipped
  pub files_transferred : one.files_transferred ≤ all.files_transferred
  pub bytes_transferred : one.bytes_transferred ≤ all.bytes_transferred
  pub bytes_checksummed : one.bytes_checksummed ≤ all.bytes_checksummed
  pub faults : one.faults ≤ all.faults

-- the tally that the map has for the task; a task that it doesn't have has no items
abbrev pub kept_tally : {S : Type 0} → HashMap ℕ Tally S → ℕ → Tally
kept_tally tallies task = unwrap_or (get nat_eq tallies task) no_items

-- the index has the place of each item by its task, the tallies are those of the rows, and there is room for so many more
pub record IsKept {S : Type 0} (rows : List Item) (capacity : ℕ) (by_task : Places) (tallies : HashMap ℕ Tally S) (room : ℕ) : Type 0 where
  pub index : IsIndex nat_cmp (λ item. item.task) (λ item. true) rows by_task.places
  pub exact : (task : ℕ) → kept_tally tallies task ≡ tally_of task rows
  pub small : AreSmall rows
  pub reserved : room ≤ capacity
  pub places : room ≤ by_task.spare
  pub free : room ≤ spare tallies
  pub few : length rows + room < 2 ^ 32
