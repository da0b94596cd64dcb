-- What each event leaves concluded, and what is left to conclude where one task changed.
use Rattle.std.specs.Prelude.{All, IsSome, List, false, if◌then◌else◌, map, true, ℕ, ◌==◌, ◌≡◌, ◌≢◌}
use Rattle.gt_machine.specs.Closing.{closed_item, closing_of, completed_task, is_complete}
use Rattle.gt_machine.specs.ItemStates.{is_waiting}
use Rattle.gt_machine.specs.MachineState.{MachineState}
use Rattle.gt_subtasks.specs.declared.item.Item.{Item}
use Rattle.gt_tasks.specs.declared.row.TaskRow.{TaskRow}
use Rattle.gt_values.specs.Rows.{changed_at}

-- where its task closes, the item doesn't wait for a worker
abbrev pub IsClosedOut : MachineState → Item → Type 0
IsClosedOut m item = IsSome (closing_of m item) → is_waiting item.state ≡ false

-- where the task's items have all ended, its moment is recorded
abbrev pub IsRecorded : List Item → TaskRow → Type 0
IsRecorded items task = is_complete task.number items ≡ true → IsSome task.completed

-- no waiting item stands in a closing task, and completion is recorded
pub record IsConcluded (m : MachineState) : Type 0 where
  pub closed : All (IsClosedOut m) m.items
  pub recorded : All (IsRecorded m.items) m.tasks

-- the same of all tasks but the one of this number
pub record IsConcludedBut (number : ℕ) (m : MachineState) : Type 0 where
  pub closed : All (λ item. item.task ≢ number → IsClosedOut m item) m.items
  pub recorded : All (λ task. task.number ≢ number → IsRecorded m.items task) m.tasks

-- a waiting item of the task of this number ends at the event k, where that closes
abbrev pub closed_in : ℕ → ℕ → MachineState → Item → Item
closed_in k number m item = if item.task == number then closed_item k (closing_of m item) item else item

-- all its waiting items end, where it closes
abbrev pub close_items_of : ℕ → ℕ → MachineState → MachineState
close_items_of k number m = record m { items = map (closed_in k number m) m.items }

-- it is complete, where its items have all ended
abbrev pub complete_task : ℕ → ℕ → MachineState → MachineState
complete_task moment number m = record m { tasks = changed_at number (completed_task moment m.items) m.tasks }

-- what follows for the task of this number from an event k at the moment
abbrev pub concluded_task : ℕ → ℕ → ℕ → MachineState → MachineState
concluded_task k moment number m = complete_task moment number (close_items_of k number m)
