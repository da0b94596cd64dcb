-- The status of a task, from its row.
use Rattle.std.specs.Prelude.{None, Option, Some, if◌then◌else◌, is_some}
use Rattle.gt_tasks.specs.declared.row.TaskRow.{TaskRow}
use Rattle.gt_types.specs.declared.code.Reason.{Reason}
use Rattle.gt_types.specs.declared.code.Status.{Status}
use Rattle.gt_types.specs.declared.code.Status.TheVariants.{Active, Failed as TaskFailed, Succeeded as TaskSucceeded}

-- what a complete task came to, by the reason for which it closed
abbrev pub ended_status : Option Reason → Status
ended_status None = TaskSucceeded
ended_status (Some reason) = TaskFailed

-- active until it is complete, and then failed where it closed
abbrev pub status_of : TaskRow → Status
status_of task = if is_some task.completed then ended_status task.closing else Active
