-- What each answer of the machine is: its status, that a refusal makes no event, and that no answer makes two.
use Rattle.std.proofs.Common.{◌≡◌, ◌≤◌, ℕ, ◌+◌, List, [], length, Bool, true, false, Option, Some, None, refl, arith, if◌then◌else◌}
use Rattle.std.specs.List.{list_any}
use Rattle.std.specs.Option.{option_map_or}
use Rattle.gt_access.specs.Rule.{is_same_rule, next_rule}
use Rattle.gt_access.specs.declared.row.AccessRow.{AccessRow}
use Rattle.gt_machine.specs.Answer.{answer_of}
use Rattle.gt_machine.specs.Decision.{doing, event_at, events_in, refusing, said}
use Rattle.gt_machine.specs.MachineState.{MachineState}
use Rattle.gt_machine.specs.Named.{rule_named, task_named}
use Rattle.gt_machine.specs.RuleAnswer.{access_list_reply, access_reply, add_access_answer, end_access_answer, replace_access_answer}
use Rattle.gt_machine.specs.RuleSteps.{has_room}
use Rattle.gt_machine.specs.TaskAnswer.{skipped_reply, submitted, successes_reply, task_reply, tasks_reply}
use Rattle.gt_machine.specs.TaskSteps.{can_issue, is_full}
use Rattle.gt_machine.specs.declared.decision.Decision.{Decision}
use Rattle.gt_machine.specs.declared.decision.Decision.TheVariants.{Do, Say}
use Rattle.gt_replies.specs.ReplyText.{reply_status}
use Rattle.gt_service.specs.Laws.{is_read}
use Rattle.gt_service.specs.Service.{is_answer_status}
use Rattle.gt_setup.specs.Setup.{Setup, is_owner}
use Rattle.gt_tasks.specs.Tasks.{number_of}
use Rattle.gt_tasks.specs.declared.row.TaskRow.{TaskRow}
use Rattle.gt_types.specs.declared.command.Command.{Command}
use Rattle.gt_types.specs.declared.command.Command.TheVariants.{AddAccess, AddPause, CancelTask, EndAccess, EndPause, IssueId, ListAccess, ListPauses, ListSkipped, ListSuccesses, ListTasks, ReplaceAccess, ShowAccess, ShowEndpoint, ShowPause, ShowTask, SubmitDelete as AskDelete, SubmitTransfer as AskTransfer, UpdateTask}
use Rattle.gt_types.specs.declared.event.Event.{Event}
use Rattle.gt_types.specs.declared.event.Happening.TheVariants.{AccessAdd, AccessEnd, AccessReplace, Issue, SubmitTransfer}
use Rattle.gt_types.specs.declared.reply.Reply.{Reply}
use Rattle.gt_types.specs.declared.reply.Reply.TheVariants.{AccessCreated, Done, Endpoint, Identifier, Refused}
use Rattle.gt_types.specs.declared.reply.ReplyCode.{ReplyCode}
use Rattle.gt_types.specs.declared.reply.ReplyCode.TheVariants.{Exists, LimitReached, NotFound, PermissionDenied, RuleNotFound, TaskNotFound}
use Rattle.gt_types.specs.declared.reply.ResultCode.TheVariants.{Deleted, Updated}

pub record Shape (decision : Decision Reply) : Type 0 where
  pub status : is_answer_status (reply_status (said decision)) ≡ true
  pub quiet : (code : ReplyCode) → said decision ≡ Refused code → events_in decision ≡ []
  pub few : length (events_in decision) ≤ 1

says : (reply : Reply) → is_answer_status (reply_status reply) ≡ true → Shape (Say reply)
says reply status = record { status = status; quiet = λ code is. refl; few = omega arith }

does : (event : Event) (reply : Reply) → is_answer_status (reply_status reply) ≡ true → ((code : ReplyCode) → reply ≡ Refused code → ⊥) → Shape (Do event reply)
does event reply status other = record { status = status; quiet = λ code is. absurd (other code is); few = omega arith }

of_issue : (m : MachineState) (identity : List ℕ) (now : ℕ) (can : Bool)
    → Shape (if can then doing m now (Issue identity) (Identifier (m.issued + 1)) else refusing LimitReached)
of_issue m identity now true = does (event_at m now (Issue identity)) (Identifier (m.issued + 1)) refl (λ code is. absurd (cc))
of_issue m identity now false = says (Refused LimitReached) refl

of_submit : (m : MachineState) (identity submission : List ℕ) (event : Event) (o : Option ℕ) (full : Bool)
    → Shape (option_map_or (λ task. Say (submitted false submission task)) o
    (if full then refusing LimitReached else Do event (submitted true submission (length m.tasks + 1))))
of_submit m identity submission event (Some n) full = says (submitted false submission n) refl
of_submit m identity submission event None true = says (Refused LimitReached) refl
of_submit m identity submission event None false = does event (submitted true submission (length m.tasks + 1)) refl (λ code is. absurd (cc))

on_task : (o : Option TaskRow) (reply : TaskRow → Reply) → ((task : TaskRow) → is_answer_status (reply_status (reply task)) ≡ true)
    → Shape (option_map_or (λ task. Say (reply task)) o (refusing TaskNotFound))
on_task None reply status = says (Refused TaskNotFound) refl
on_task (Some task) reply status = says (reply task) (status task)

as_owned : (owns : Bool) (decision : Decision Reply) → Shape decision → Shape (if owns then decision else refusing PermissionDenied)
as_owned true decision has = has
as_owned false decision has = says (Refused PermissionDenied) refl

on_rule : (owns : Bool) (o : Option AccessRow) (decide : AccessRow → Decision Reply) → ((row : AccessRow) → Shape (decide row))
    → Shape (if owns then option_map_or decide o (refusing RuleNotFound) else refusing PermissionDenied)
on_rule owns None decide has = as_owned owns (refusing RuleNotFound) (says (Refused RuleNotFound) refl)
on_rule owns (Some row) decide has = as_owned owns (decide row) (has row)

of_add : (event : Event) (rule : ℕ) (same room : Bool) → Shape (if same then refusing Exists else if room then Do event (AccessCreated rule) else refusing LimitReached)
of_add event rule true room = says (Refused Exists) refl
of_add event rule false true = does event (AccessCreated rule) refl (λ code is. absurd (cc))
of_add event rule false false = says (Refused LimitReached) refl

of_replace : (event : Event) (room : Bool) → Shape (if room then Do event (Done Updated) else refusing LimitReached)
of_replace event true = does event (Done Updated) refl (λ code is. absurd (cc))
of_replace event false = says (Refused LimitReached) refl

pub shape : (setup : Setup) (m : MachineState) (identity : List ℕ) (command : Command) (now : ℕ) → Shape (answer_of setup m identity command now)
shape setup m identity IssueId now = of_issue m identity now (can_issue m)
shape setup m identity (AskTransfer submission spec) now =
    of_submit m identity submission (event_at m now (SubmitTransfer identity submission spec)) (number_of identity submission m.tasks) (is_full m (length spec.entries))
shape setup m identity (AskDelete submission spec) now = says (Refused NotFound) refl
shape setup m identity (ListTasks limit offset) now = says (tasks_reply m identity limit offset) refl
shape setup m identity (ShowTask id) now = on_task (task_named setup m identity id) (task_reply m) (λ task. refl)
shape setup m identity (UpdateTask task label deadline) now = says (Refused NotFound) refl
shape setup m identity (CancelTask task) now = says (Refused NotFound) refl
shape setup m identity (ListSuccesses id limit offset) now = on_task (task_named setup m identity id) (successes_reply m limit offset) (λ task. refl)
shape setup m identity (ListSkipped id limit offset) now = on_task (task_named setup m identity id) (skipped_reply m limit offset) (λ task. refl)
shape setup m identity (ShowEndpoint collection) now = says (Endpoint collection) refl
shape setup m identity (ListAccess collection) now = as_owned (is_owner setup identity collection) (Say (access_list_reply m collection)) (says (access_list_reply m collection) refl)
shape setup m identity (AddAccess collection spec) now =
    as_owned (is_owner setup identity collection) (add_access_answer m collection spec now)
    (of_add (event_at m now (AccessAdd collection spec)) (next_rule m.access) (list_any (is_same_rule collection spec) m.access) (has_room m.access))
shape setup m identity (ShowAccess collection id) now =
    on_rule (is_owner setup identity collection) (rule_named setup m collection id) (λ row. Say (access_reply row)) (λ row. says (access_reply row) refl)
shape setup m identity (EndAccess collection id) now =
    on_rule (is_owner setup identity collection) (rule_named setup m collection id) (end_access_answer m now)
    (λ row. does (event_at m now (AccessEnd row.number)) (Done Deleted) refl (λ code is. absurd (cc)))
shape setup m identity (ReplaceAccess collection id write) now =
    on_rule (is_owner setup identity collection) (rule_named setup m collection id) (replace_access_answer m write now)
    (λ row. of_replace (event_at m now (AccessReplace row.number write)) (has_room m.access))
shape setup m identity ListPauses now = says (Refused NotFound) refl
shape setup m identity (AddPause spec) now = says (Refused NotFound) refl
shape setup m identity (ShowPause rule) now = says (Refused NotFound) refl
shape setup m identity (EndPause rule) now = says (Refused NotFound) refl

task_read : (o : Option TaskRow) (reply : TaskRow → Reply) → events_in (option_map_or (λ task. Say (reply task)) o (refusing TaskNotFound)) ≡ []
task_read None reply = refl
task_read (Some task) reply = refl

rule_read : (owns : Bool) (o : Option AccessRow)
    → events_in (if owns then option_map_or (λ row. Say (access_reply row)) o (refusing RuleNotFound) else refusing PermissionDenied) ≡ []
rule_read true None = refl
rule_read true (Some row) = refl
rule_read false o = refl

list_read : (owns : Bool) (reply : Reply) → events_in (if owns then Say reply else refusing PermissionDenied) ≡ []
list_read true reply = refl
list_read false reply = refl

-- a command that only reads makes no event
pub read_makes_none : (setup : Setup) (m : MachineState) (identity : List ℕ) (command : Command) (now : ℕ) → is_read command ≡ true
    → events_in (answer_of setup m identity command now) ≡ []
read_makes_none setup m identity (ListTasks limit offset) now is = refl
read_makes_none setup m identity (ShowTask id) now is = task_read (task_named setup m identity id) (task_reply m)
read_makes_none setup m identity (ListSuccesses id limit offset) now is = task_read (task_named setup m identity id) (successes_reply m limit offset)
read_makes_none setup m identity (ListSkipped id limit offset) now is = task_read (task_named setup m identity id) (skipped_reply m limit offset)
read_makes_none setup m identity (ShowEndpoint collection) now is = refl
read_makes_none setup m identity (ListAccess collection) now is = list_read (is_owner setup identity collection) (access_list_reply m collection)
read_makes_none setup m identity (ShowAccess collection id) now is = rule_read (is_owner setup identity collection) (rule_named setup m collection id)
read_makes_none setup m identity _ now is = absurd (cc)
