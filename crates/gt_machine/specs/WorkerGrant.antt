-- The grant that a worker gets.
use Rattle.std.specs.Prelude.{Bool, None, Option, false, if◌then◌else◌, option_and_then, option_map, ℕ, ◌&&◌}
use Rattle.gt_machine.specs.ItemStates.{Holder, holder_of}
use Rattle.gt_machine.specs.MachineState.{MachineState, item_at, task_at}
use Rattle.gt_subtasks.specs.declared.item.Item.{Item}
use Rattle.gt_tasks.specs.declared.row.TaskRow.{TaskRow}
use Rattle.gt_types.specs.Outcome.{is_transfer}
use Rattle.gt_types.specs.SpecParts.{destination_of, source_of}
use Rattle.gt_types.specs.declared.outcome.Grant.{Grant}
use Rattle.gt_types.specs.declared.spec.Spec.{Spec}
use Rattle.gt_types.specs.declared.spec.Spec.TheVariants.{Delete as OfDelete, Transfer as OfTransfer}

-- the sync level of the task
abbrev pub level_of : Spec → Option ℕ
level_of (OfTransfer spec) = spec.level
level_of (OfDelete spec) = None

-- whether copies are read back
abbrev pub verifies : Spec → Bool
verifies (OfTransfer spec) = spec.verify
verifies (OfDelete spec) = false

-- whether copies get the times of their sources
abbrev pub preserves : Spec → Bool
preserves (OfTransfer spec) = spec.preserve
preserves (OfDelete spec) = false

-- whether extra entries are removed
abbrev pub removes_extra : Spec → Bool
removes_extra (OfTransfer spec) = spec.extra
removes_extra (OfDelete spec) = false

-- what the worker needs of the item and its task; an item that was tried is copied whatever the level
abbrev pub grant_to : TaskRow → Item → Holder → Grant
grant_to task item holder =
    record {
      item = item.number;
      event = holder.event;
      worker = holder.worker;
      act = item.act;
      source = source_of task.spec;
      destination = destination_of task.spec;
      level = if item.tried then None else level_of task.spec;
      verify = verifies task.spec;
      preserve = preserves task.spec;
      list_destination = removes_extra task.spec && is_transfer item.act;
    }

-- the grant of an item of the task, where a worker has it
abbrev pub worker_grant : TaskRow → Item → Option Grant
worker_grant task item = option_map (grant_to task item) (holder_of item.state)

-- the grant of the item of this number, where a worker has it
abbrev pub grant_at : MachineState → ℕ → Option Grant
grant_at m number =
    option_and_then (λ item. option_and_then (λ task. worker_grant task item) (task_at m item.task)) (item_at m number)
