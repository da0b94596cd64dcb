-- What the events of identifiers and tasks do, and when they have no step.
use Rattle.std.specs.Prelude.{Bool, List, None, Option, [], is_none, length, nat_le, nat_lt, not, ℕ, ◌&&◌, ◌++◌, ◌+◌, ◌-◌, ◌^◌, ◌||◌, ◌∷◌}
use Rattle.gt_machine.specs.MachineState.{MachineState}
use Rattle.gt_machine.specs.RuleSteps.{only_if}
use Rattle.gt_subtasks.specs.Growth.{first_items}
use Rattle.gt_tasks.specs.Tasks.{number_of}
use Rattle.gt_tasks.specs.declared.row.TaskRow.{TaskRow}
use Rattle.gt_types.specs.SpecParts.{deadline_of, entry_count, label_of}
use Rattle.gt_types.specs.declared.spec.Spec.{Spec}

-- whether an identifier is left: each is made of a number of 6 bytes, from 1 on
abbrev pub can_issue : MachineState → Bool
can_issue m = nat_lt m.issued (2 ^ 48 - 1)

-- an identifier, until they are used up
abbrev pub issue_step : MachineState → Option MachineState
issue_step m = only_if (can_issue m) (record m { issued = m.issued + 1 })

-- whether there is no room for a task of so many entries: for 100,000 tasks and 400,000 items there is
abbrev pub is_full : MachineState → ℕ → Bool
is_full m more = nat_le 100000 (length m.tasks) || nat_lt 400000 (length m.items + more)

-- the new task
abbrev pub new_task : ℕ → ℕ → List ℕ → List ℕ → Spec → TaskRow
new_task number moment owner submission spec =
    record {
      number = number;
      owner = owner;
      submission = submission;
      spec = spec;
      label = label_of spec;
      deadline = deadline_of spec;
      requested = moment;
      closing = None;
      completed = None;
    }

-- the state with the task and its first items
abbrev pub with_task : ℕ → List ℕ → List ℕ → Spec → MachineState → MachineState
with_task moment owner submission spec m =
    let number = length m.tasks + 1 in
    record m {
      tasks = m.tasks ++ new_task number moment owner submission spec ∷ [];
      items = m.items ++ first_items number (length m.items + 1) spec;
    }

-- a task with a submission identifier that its owner hasn't used, where there is room
abbrev pub submit_step : ℕ → List ℕ → List ℕ → Spec → MachineState → Option MachineState
submit_step moment owner submission spec m =
    only_if
    (is_none (number_of owner submission m.tasks) && not (is_full m (entry_count spec)))
    (with_task moment owner submission spec m)
