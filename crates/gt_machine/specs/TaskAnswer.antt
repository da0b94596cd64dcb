-- Answers on identifiers, submissions and tasks.
use Rattle.std.specs.Option.{option_map_or}
use Rattle.std.specs.Prelude.{Bool, List, false, if◌then◌else◌, length, map, true, ℕ, ◌+◌}
use Rattle.gt_machine.specs.Decision.{doing, refusing}
use Rattle.gt_machine.specs.Document.{copied_items, pair_of, skipped_document, skipped_items, task_document, tasks_of}
use Rattle.gt_machine.specs.Lists.{page_line, page_of}
use Rattle.gt_machine.specs.MachineState.{MachineState}
use Rattle.gt_machine.specs.Named.{task_named}
use Rattle.gt_machine.specs.TaskSteps.{can_issue, is_full}
use Rattle.gt_machine.specs.declared.decision.Decision.{Decision}
use Rattle.gt_machine.specs.declared.decision.Decision.TheVariants.{Say}
use Rattle.gt_setup.specs.Setup.{Setup}
use Rattle.gt_tasks.specs.Tasks.{number_of}
use Rattle.gt_tasks.specs.declared.row.TaskRow.{TaskRow}
use Rattle.gt_types.specs.declared.event.Happening.TheVariants.{Issue, SubmitTransfer}
use Rattle.gt_types.specs.declared.reply.Reply.{Reply}
use Rattle.gt_types.specs.declared.reply.Reply.TheVariants.{Identifier, Skipped as SkippedReply, Submitted, Successes as SuccessesReply, Task as TaskReply, Tasks as TasksReply}
use Rattle.gt_types.specs.declared.reply.ReplyCode.TheVariants.{LimitReached, TaskNotFound}
use Rattle.gt_types.specs.declared.spec.TransferSpec.{TransferSpec}

-- the next identifier, until they are used up
abbrev pub issue_answer : MachineState → List ℕ → ℕ → Decision Reply
issue_answer m identity now =
    if can_issue m then doing m now (Issue identity) (Identifier (m.issued + 1)) else refusing LimitReached

-- the reply to a transfer's submission: its task, made just now or before
abbrev pub submitted : Bool → List ℕ → ℕ → Reply
submitted is_new submission task = Submitted false is_new submission task

-- the task that the owner's identifier made, whatever the document, or else a new one, where there is room
abbrev pub submit_answer : MachineState → List ℕ → List ℕ → TransferSpec → ℕ → Decision Reply
submit_answer m owner submission spec now =
    option_map_or
    (λ task. Say (submitted false submission task))
    (number_of owner submission m.tasks)
    (if is_full m (length spec.entries) then refusing LimitReached
    else doing m now (SubmitTransfer owner submission spec) (submitted true submission (length m.tasks + 1)))

-- what is said of the caller's task with this identifier
abbrev pub on_task : Setup → MachineState → List ℕ → List ℕ → (TaskRow → Reply) → Decision Reply
on_task setup m identity id reply =
    option_map_or (λ task. Say (reply task)) (task_named setup m identity id) (refusing TaskNotFound)

-- a page of the caller's tasks
abbrev pub tasks_reply : MachineState → List ℕ → ℕ → ℕ → Reply
tasks_reply m identity limit offset =
    let rows = tasks_of identity m in
    TasksReply (map (task_document m) (page_of limit offset rows)) (page_line limit offset rows)

-- the document of a task
abbrev pub task_reply : MachineState → TaskRow → Reply
task_reply m task = TaskReply (task_document m task)

-- a page of the files that the task copied
abbrev pub successes_reply : MachineState → ℕ → ℕ → TaskRow → Reply
successes_reply m limit offset task =
    let rows = copied_items m task in
    SuccessesReply (map pair_of (page_of limit offset rows)) (page_line limit offset rows)

-- a page of what the task skipped
abbrev pub skipped_reply : MachineState → ℕ → ℕ → TaskRow → Reply
skipped_reply m limit offset task =
    let rows = skipped_items m task in
    SkippedReply (map skipped_document (page_of limit offset rows)) (page_line limit offset rows)
