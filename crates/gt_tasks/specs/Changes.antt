-- What closing, completing and updating change of a task's row.
use Rattle.std.specs.Prelude.{List, Option, Some, ℕ}
use Rattle.gt_tasks.specs.declared.row.TaskRow.{TaskRow}
use Rattle.gt_types.specs.declared.change.DeadlineChange.{DeadlineChange}
use Rattle.gt_types.specs.declared.change.DeadlineChange.TheVariants.{Keep as KeepDeadline, Set as SetDeadline}
use Rattle.gt_types.specs.declared.change.LabelChange.{LabelChange}
use Rattle.gt_types.specs.declared.change.LabelChange.TheVariants.{Keep as KeepLabel, Set as SetLabel}
use Rattle.gt_types.specs.declared.code.Reason.{Reason}

-- the task closes for this reason
abbrev pub closed_for : Reason → TaskRow → TaskRow
closed_for reason task = record task { closing = Some reason }

-- the task is complete since this moment
abbrev pub completed_at : ℕ → TaskRow → TaskRow
completed_at moment task = record task { completed = Some moment }

-- the label after the change
abbrev pub new_label : LabelChange → Option (List ℕ) → Option (List ℕ)
new_label KeepLabel old = old
new_label (SetLabel label) old = label

-- the deadline after the change
abbrev pub new_deadline : DeadlineChange → Option ℕ → Option ℕ
new_deadline KeepDeadline old = old
new_deadline (SetDeadline deadline) old = deadline

-- the task's label and deadline change
abbrev pub updated_by : LabelChange → DeadlineChange → TaskRow → TaskRow
updated_by label deadline task =
    record task { label = new_label label task.label; deadline = new_deadline deadline task.deadline }
