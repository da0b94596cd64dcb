-- What follows from the closing of tasks.
use Rattle.std.specs.List.{list_all}
use Rattle.std.specs.Prelude.{Bool, List, None, Option, Some, if◌then◌else◌, is_none, map, option_and_then, ℕ, ◌&&◌}
use Rattle.gt_machine.specs.ItemStates.{failure_in, is_waiting, with_state}
use Rattle.gt_machine.specs.MachineState.{MachineState, task_at}
use Rattle.gt_subtasks.specs.Item.{has_ended, items_of}
use Rattle.gt_subtasks.specs.declared.item.Item.{Item}
use Rattle.gt_subtasks.specs.declared.item.ItemState.{ItemState}
use Rattle.gt_subtasks.specs.declared.item.ItemState.TheVariants.{Canceled as CanceledItem, Expired}
use Rattle.gt_tasks.specs.Changes.{closed_for, completed_at}
use Rattle.gt_tasks.specs.declared.row.TaskRow.{TaskRow}
use Rattle.gt_types.specs.declared.code.Code.{Code}
use Rattle.gt_types.specs.declared.code.Reason.{Reason}
use Rattle.gt_types.specs.declared.code.Reason.TheVariants.{Canceled, Code as ByCode, Deadline}
use Rattle.gt_values.specs.Rows.{changed_at}

-- how a waiting item of a closing task ends
abbrev pub end_by : Reason → ItemState
end_by Canceled = CanceledItem
end_by Deadline = Expired
end_by (ByCode code) = CanceledItem

-- the reason for which the item's task closes, where it does
abbrev pub closing_of : MachineState → Item → Option Reason
closing_of m item = option_and_then (λ task. task.closing) (task_at m item.task)

-- a waiting item of a closing task ends at the event k
abbrev pub closed_item : ℕ → Option Reason → Item → Item
closed_item k None item = item
closed_item k (Some reason) item = if is_waiting item.state then with_state k (end_by reason) item else item

-- all waiting items of closing tasks end
abbrev pub close_items : ℕ → MachineState → MachineState
close_items k m = record m { items = map (λ item. closed_item k (closing_of m item) item) m.items }

-- whether all items of the task have ended
abbrev pub is_complete : ℕ → List Item → Bool
is_complete task items = list_all (λ item. has_ended item.state) (items_of task items)

-- a task whose items have all ended is complete since the moment, unless it was before
abbrev pub completed_task : ℕ → List Item → TaskRow → TaskRow
completed_task moment items task =
    if is_none task.completed && is_complete task.number items then completed_at moment task else task

-- each task whose items have all ended is complete
abbrev pub complete_tasks : ℕ → MachineState → MachineState
complete_tasks moment m = record m { tasks = map (completed_task moment m.items) m.tasks }

-- what follows from an event k at the moment
abbrev pub concluded_state : ℕ → ℕ → MachineState → MachineState
concluded_state k moment m = complete_tasks moment (close_items k m)

-- the state with this row for the item of this number
abbrev pub put_item : ℕ → Item → MachineState → MachineState
put_item number item m = record m { items = changed_at number (λ _. item) m.items }

-- the state in which the task of this number closes for the code of an item that failed, unless it is closing
abbrev pub close_failed : ℕ → Option Code → Option Reason → MachineState → MachineState
close_failed task None closing m = m
close_failed task (Some code) None m = record m { tasks = changed_at task (closed_for (ByCode code)) m.tasks }
close_failed task (Some code) (Some reason) m = m

-- the state in which the attempt at the item of this number left this row: a failure closes its task
abbrev pub with_item : ℕ → Item → MachineState → MachineState
with_item number item m = close_failed item.task (failure_in item.state) (closing_of m item) (put_item number item m)
