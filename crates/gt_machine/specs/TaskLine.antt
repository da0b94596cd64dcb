-- What the table of tasks shows.
use Rattle.std.specs.Prelude.{List, map}
use Rattle.gt_machine.specs.MachineState.{MachineState}
use Rattle.gt_machine.specs.declared.line.TaskLine.{TaskLine}
use Rattle.gt_subtasks.specs.Counters.{counters_of}
use Rattle.gt_subtasks.specs.declared.item.Item.{Item}
use Rattle.gt_tasks.specs.Status.{status_of}
use Rattle.gt_tasks.specs.declared.row.TaskRow.{TaskRow}
use Rattle.gt_types.specs.SpecParts.{is_deletion}

-- the line of a task among these items
abbrev pub line_among : List Item → TaskRow → TaskLine
line_among items task =
    record {
      number = task.number;
      is_delete = is_deletion task.spec;
      status = status_of task;
      counters = counters_of task.number items;
    }

-- the lines of all tasks, in order
abbrev pub task_lines : MachineState → List TaskLine
task_lines m = map (line_among m.items) m.tasks
