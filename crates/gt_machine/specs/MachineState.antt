-- The state of the machine.
use Rattle.std.specs.Prelude.{List, Option, [], ℕ}
use Rattle.gt_access.specs.declared.row.AccessRow.{AccessRow}
use Rattle.gt_subtasks.specs.declared.item.Item.{Item}
use Rattle.gt_tasks.specs.declared.row.TaskRow.{TaskRow}
use Rattle.gt_values.specs.Rows.{row_at}

-- the rows in order of making, and three counts
pub record MachineState : Type 0 where
  pub namespace : ℕ  -- of the identifiers that are made; the setup's
  pub access : List AccessRow
  pub tasks : List TaskRow
  pub items : List Item
  pub issued : ℕ  -- how many submission identifiers were issued
  pub greatest : ℕ  -- the greatest moment
  pub events : ℕ

-- the state before any event
abbrev pub empty_state : ℕ → MachineState
empty_state namespace =
    record { namespace = namespace; access = []; tasks = []; items = []; issued = 0; greatest = 0; events = 0 }

-- the task of this number
abbrev pub task_at : MachineState → ℕ → Option TaskRow
task_at m number = row_at m.tasks number

-- the item of this number
abbrev pub item_at : MachineState → ℕ → Option Item
item_at m number = row_at m.items number
