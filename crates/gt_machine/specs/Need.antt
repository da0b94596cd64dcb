-- Which rights an item needs.
use Rattle.std.specs.Option.{option_map_or}
use Rattle.std.specs.Prelude.{Bool, List, None, Option, Some, false, if◌then◌else◌, not, option_and_then, ℕ}
use Rattle.gt_access.specs.Right.{may_read, may_write, right_of}
use Rattle.gt_access.specs.declared.row.Right.{Right}
use Rattle.gt_access.specs.declared.row.Right.TheVariants.{Nothing}
use Rattle.gt_machine.specs.MachineState.{MachineState, task_at}
use Rattle.gt_paths.specs.Path.{PathValue}
use Rattle.gt_setup.specs.Setup.{Setup, owner_of, who_of}
use Rattle.gt_subtasks.specs.declared.item.Item.{Item}
use Rattle.gt_tasks.specs.declared.row.TaskRow.{TaskRow}
use Rattle.gt_types.specs.SpecParts.{destination_of, source_of}
use Rattle.gt_types.specs.declared.act.Act.{Act}
use Rattle.gt_types.specs.declared.act.Act.TheVariants.{Erase, RemoveFolder, Transfer}
use Rattle.gt_types.specs.declared.act.Side.{Side}
use Rattle.gt_types.specs.declared.act.Side.TheVariants.{Destination, Source}

-- the right of the identity at the event k
abbrev pub right_at : Setup → MachineState → ℕ → List ℕ → ℕ → PathValue → Right
right_at setup m k identity collection path =
    option_map_or (λ who. right_of k who collection (owner_of setup collection) path m.access) (who_of setup identity) Nothing

-- whether the owner of the task may read the path at its source
abbrev pub may_read_there : Setup → MachineState → ℕ → TaskRow → PathValue → Bool
may_read_there setup m k task path = may_read (right_at setup m k task.owner (source_of task.spec) path)

-- whether the owner of the task may write the path at its destination
abbrev pub may_write_there : Setup → MachineState → ℕ → TaskRow → PathValue → Bool
may_write_there setup m k task path = may_write (right_at setup m k task.owner (destination_of task.spec) path)

-- whether the act lacks its right on this side at k; only a transfer needs one at the source
abbrev pub lacks : Setup → MachineState → ℕ → TaskRow → Act → Side → Bool
lacks setup m k task (Transfer source destination want) Source = not (may_read_there setup m k task source)
lacks setup m k task (Erase path want) Source = false
lacks setup m k task (RemoveFolder path) Source = false
lacks setup m k task (Transfer source destination want) Destination = not (may_write_there setup m k task destination)
lacks setup m k task (Erase path want) Destination = not (may_write_there setup m k task path)
lacks setup m k task (RemoveFolder path) Destination = not (may_write_there setup m k task path)

-- the first side that lacks its right at k, the source before the destination
abbrev pub lacking_side : Setup → MachineState → ℕ → TaskRow → Act → Option Side
lacking_side setup m k task act =
    if lacks setup m k task act Source then Some Source
    else if lacks setup m k task act Destination then Some Destination
    else None

-- whether the item has a task, and that passes the test
abbrev pub of_task : MachineState → Item → (TaskRow → Bool) → Bool
of_task m item test = option_map_or test (task_at m item.task) false

-- whether the item lacks its right on this side at k
abbrev pub item_lacks : Setup → MachineState → ℕ → Item → Side → Bool
item_lacks setup m k item side = of_task m item (λ task. lacks setup m k task item.act side)

-- the first side at which the item lacks its right at k
abbrev pub item_lack : Setup → MachineState → ℕ → Item → Option Side
item_lack setup m k item = option_and_then (λ task. lacking_side setup m k task item.act) (task_at m item.task)

-- whether the item is paused at k; there are no pause rules yet
abbrev pub is_item_paused : MachineState → ℕ → Item → Bool
is_item_paused m k item = false
