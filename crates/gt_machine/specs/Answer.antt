-- The answer to a request.
use Rattle.std.specs.Prelude.{IsSome, IsTrue, List, ℕ}
use Rattle.gt_machine.specs.Decision.{refusing}
use Rattle.gt_machine.specs.MachineState.{MachineState}
use Rattle.gt_machine.specs.RuleAnswer.{access_list_reply, access_reply, add_access_answer, as_owner, end_access_answer, on_rule, replace_access_answer}
use Rattle.gt_machine.specs.Step.{step_of}
use Rattle.gt_machine.specs.TaskAnswer.{issue_answer, on_task, skipped_reply, submit_answer, successes_reply, task_reply, tasks_reply}
use Rattle.gt_machine.specs.declared.decision.Decision.{Decision}
use Rattle.gt_machine.specs.declared.decision.Decision.TheVariants.{Do, Say}
use Rattle.gt_setup.specs.Setup.{Setup}
use Rattle.gt_types.specs.Event.{is_recordable, recordable_collections}
use Rattle.gt_types.specs.declared.command.Command.{Command}
use Rattle.gt_types.specs.declared.command.Command.TheVariants.{AddAccess, AddPause, CancelTask, EndAccess, EndPause, IssueId, ListAccess, ListPauses, ListSkipped, ListSuccesses, ListTasks, ReplaceAccess, ShowAccess, ShowEndpoint, ShowPause, ShowTask, SubmitDelete as AskDelete, SubmitTransfer as AskTransfer, UpdateTask}
use Rattle.gt_types.specs.declared.reply.Reply.{Reply}
use Rattle.gt_types.specs.declared.reply.Reply.TheVariants.{Endpoint as EndpointReply}
use Rattle.gt_types.specs.declared.reply.ReplyCode.TheVariants.{NotFound}

-- the event, if one is made, has a step under the setup and a record
abbrev pub HasStep : {A : Type 0} → Setup → MachineState → Decision A → Type 0
HasStep setup m (Say answer) = Unit {0}
HasStep setup m (Do event answer) =
    IsSome (step_of setup m event) × IsTrue (is_recordable recordable_collections event)

-- what is decided of the caller's request at this moment; no request asks yet for a deletion, a change of a task or pause
-- rules
abbrev pub answer_of : Setup → MachineState → List ℕ → Command → ℕ → Decision Reply
answer_of setup m identity IssueId now = issue_answer m identity now
answer_of setup m identity (AskTransfer submission spec) now = submit_answer m identity submission spec now
answer_of setup m identity (AskDelete submission spec) now = refusing NotFound
answer_of setup m identity (ListTasks limit offset) now = Say (tasks_reply m identity limit offset)
answer_of setup m identity (ShowTask task) now = on_task setup m identity task (task_reply m)
answer_of setup m identity (UpdateTask task label deadline) now = refusing NotFound
answer_of setup m identity (CancelTask task) now = refusing NotFound
answer_of setup m identity (ListSuccesses task limit offset) now =
    on_task setup m identity task (successes_reply m limit offset)
answer_of setup m identity (ListSkipped task limit offset) now =
    on_task setup m identity task (skipped_reply m limit offset)
answer_of setup m identity (ShowEndpoint collection) now = Say (EndpointReply collection)
answer_of setup m identity (ListAccess collection) now =
    as_owner setup identity collection (Say (access_list_reply m collection))
answer_of setup m identity (AddAccess collection spec) now =
    as_owner setup identity collection (add_access_answer m collection spec now)
answer_of setup m identity (ShowAccess collection rule) now =
    on_rule setup m identity collection rule (λ row. Say (access_reply row))
answer_of setup m identity (EndAccess collection rule) now =
    on_rule setup m identity collection rule (end_access_answer m now)
answer_of setup m identity (ReplaceAccess collection rule write) now =
    on_rule setup m identity collection rule (replace_access_answer m write now)
answer_of setup m identity ListPauses now = refusing NotFound
answer_of setup m identity (AddPause spec) now = refusing NotFound
answer_of setup m identity (ShowPause rule) now = refusing NotFound
answer_of setup m identity (EndPause rule) now = refusing NotFound
