-- The first ground that holds is the code of the refusal.
use Rattle.std.proofs.Common.{◌≡◌, ℕ, List, [], ◌∷◌, ◌++◌, ◌∙◌, length, Bool, true, false, Option, Some, None, refl, sym, if◌then◌else◌}
use Rattle.std.specs.List.{list_any}
use Rattle.std.specs.Option.{option_map_or}
use Rattle.std.specs.Prelude.{Err, Ok, Result, is_none, not, ◌&&◌}
use Rattle.gt_access.specs.Rule.{is_same_rule}
use Rattle.gt_access.specs.declared.row.AccessRow.{AccessRow}
use Rattle.gt_machine.specs.Answer.{answer_of}
use Rattle.gt_machine.specs.Decision.{refusing, said}
use Rattle.gt_machine.specs.MachineState.{MachineState}
use Rattle.gt_machine.specs.Named.{rule_named, task_named}
use Rattle.gt_machine.specs.RuleAnswer.{access_list_reply, access_reply, end_access_answer}
use Rattle.gt_machine.specs.RuleSteps.{has_room}
use Rattle.gt_machine.specs.TaskAnswer.{skipped_reply, successes_reply, task_reply}
use Rattle.gt_machine.specs.TaskSteps.{can_issue, is_full}
use Rattle.gt_machine.specs.declared.decision.Decision.{Decision}
use Rattle.gt_machine.specs.declared.decision.Decision.TheVariants.{Say}
use Rattle.gt_requests.specs.Causes.{FirstCauseRefuses, causes, code_of, first_cause}
use Rattle.gt_requests.specs.Request.{request_of}
use Rattle.gt_requests.specs.declared.fault.RequestFault.{RequestFault}
use Rattle.gt_requests.specs.declared.fault.RequestFault.TheVariants.{OutOfMemory, Refused as RefusedReading}
use Rattle.gt_service.specs.Grounds.{FirstGroundRefuses, code_behind, code_in, grounds_behind, state_grounds}
use Rattle.gt_setup.specs.Setup.{Setup, is_owner}
use Rattle.gt_tasks.specs.Tasks.{number_of}
use Rattle.gt_tasks.specs.declared.row.TaskRow.{TaskRow}
use Rattle.gt_types.specs.declared.command.Command.{Command}
use Rattle.gt_types.specs.declared.command.Command.TheVariants.{AddAccess, AddPause, CancelTask, EndAccess, EndPause, IssueId, ListAccess, ListPauses, ListSkipped, ListSuccesses, ListTasks, ReplaceAccess, ShowAccess, ShowEndpoint, ShowPause, ShowTask, SubmitDelete as AskDelete, SubmitTransfer as AskTransfer, UpdateTask}
use Rattle.gt_types.specs.declared.reply.Reply.{Reply}
use Rattle.gt_types.specs.declared.reply.ReplyCode.{ReplyCode}
use Rattle.gt_types.specs.declared.reply.ReplyCode.TheVariants.{Exists, LimitReached, PermissionDenied, RuleNotFound, TaskNotFound}

-- the code that a decision refuses with
abbrev pub refused : Decision Reply → Option ReplyCode
refused decision = code_in (said decision)

of_test : (can : Bool) (decision : Decision Reply) → refused decision ≡ None
    → (if not can then Some LimitReached else None) ≡ refused (if can then decision else refusing LimitReached)
of_test true decision answers = sym answers
of_test false decision answers = refl

of_submit : (o : Option ℕ) (full : Bool) (repeat : ℕ → Decision Reply) (made : Decision Reply) → ((n : ℕ) → refused (repeat n) ≡ None) → refused made ≡ None
    → (if is_none o && full then Some LimitReached else None) ≡ refused (option_map_or repeat o (if full then refusing LimitReached else made))
of_submit (Some n) full repeat made is_repeat is_made = sym (is_repeat n)
of_submit None true repeat made is_repeat is_made = refl
of_submit None false repeat made is_repeat is_made = sym is_made

of_task : (o : Option TaskRow) (reply : TaskRow → Reply) → ((task : TaskRow) → code_in (reply task) ≡ None)
    → (if is_none o then Some TaskNotFound else None) ≡ refused (option_map_or (λ task. Say (reply task)) o (refusing TaskNotFound))
of_task None reply answers = refl
of_task (Some task) reply answers = sym (answers task)

of_owner : (owns : Bool) (rest : Option ReplyCode) (decision : Decision Reply) → rest ≡ refused decision
    → (if not owns then Some PermissionDenied else rest) ≡ refused (if owns then decision else refusing PermissionDenied)
of_owner true rest decision same = same
of_owner false rest decision same = refl

of_rule : (o : Option AccessRow) (rest : Option ReplyCode) (decide : AccessRow → Decision Reply) → ((row : AccessRow) → rest ≡ refused (decide row))
    → (if is_none o then Some RuleNotFound else rest) ≡ refused (option_map_or decide o (refusing RuleNotFound))
of_rule None rest decide same = refl
of_rule (Some row) rest decide same = same row

of_same : (same : Bool) (rest : Option ReplyCode) (decision : Decision Reply) → rest ≡ refused decision
    → (if same then Some Exists else rest) ≡ refused (if same then refusing Exists else decision)
of_same true rest decision is = refl
of_same false rest decision is = is

pub answer_ground : (setup : Setup) (m : MachineState) (identity : List ℕ) (command : Command) (now : ℕ)
    → first_cause (state_grounds setup m identity command) ≡ refused (answer_of setup m identity command now)
answer_ground setup m identity IssueId now = of_test (can_issue m) _ refl
answer_ground setup m identity (AskTransfer submission spec) now =
    of_submit (number_of identity submission m.tasks) (is_full m (length spec.entries)) _ _ (λ n. refl) refl
answer_ground setup m identity (AskDelete submission spec) now = refl
answer_ground setup m identity (ListTasks limit offset) now = refl
answer_ground setup m identity (ShowTask id) now = of_task (task_named setup m identity id) (task_reply m) (λ task. refl)
answer_ground setup m identity (UpdateTask task label deadline) now = refl
answer_ground setup m identity (CancelTask task) now = refl
answer_ground setup m identity (ListSuccesses id limit offset) now = of_task (task_named setup m identity id) (successes_reply m limit offset) (λ task. refl)
answer_ground setup m identity (ListSkipped id limit offset) now = of_task (task_named setup m identity id) (skipped_reply m limit offset) (λ task. refl)
answer_ground setup m identity (ShowEndpoint collection) now = refl
answer_ground setup m identity (ListAccess collection) now = of_owner (is_owner setup identity collection) None (Say (access_list_reply m collection)) refl
answer_ground setup m identity (AddAccess collection spec) now =
    of_owner (is_owner setup identity collection) _ _
    (of_same (list_any (is_same_rule collection spec) m.access) _ _ (of_test (has_room m.access) _ refl))
answer_ground setup m identity (ShowAccess collection id) now =
    of_owner (is_owner setup identity collection) _ _ (of_rule (rule_named setup m collection id) None (λ row. Say (access_reply row)) (λ row. refl))
answer_ground setup m identity (EndAccess collection id) now =
    of_owner (is_owner setup identity collection) _ _ (of_rule (rule_named setup m collection id) None (end_access_answer m now) (λ row. refl))
answer_ground setup m identity (ReplaceAccess collection id write) now =
    of_owner (is_owner setup identity collection) _ _ (of_rule (rule_named setup m collection id) _ _ (λ row. of_test (has_room m.access) _ refl))
answer_ground setup m identity ListPauses now = refl
answer_ground setup m identity (AddPause spec) now = refl
answer_ground setup m identity (ShowPause rule) now = refl
answer_ground setup m identity (EndPause rule) now = refl

-- what comes behind a cause that holds, and behind none
found_first : (front back : List (ReplyCode × Bool)) (code : ReplyCode) → first_cause front ≡ Some code → first_cause (front ++ back) ≡ Some code
found_first [] back code is = absurd (cc)
found_first ((other, true) ∷ front) back code is = is
found_first ((other, false) ∷ front) back code is = found_first front back code is

found_behind : (front back : List (ReplyCode × Bool)) → first_cause front ≡ None → first_cause (front ++ back) ≡ first_cause back
found_behind [] back is = refl
found_behind ((other, true) ∷ front) back is = absurd (cc)
found_behind ((other, false) ∷ front) back is = found_behind front back is

pub first_ground : FirstCauseRefuses → FirstGroundRefuses
first_ground refuses setup m r now = by_reading (request_of setup r.method r.target r.token r.body) (refuses setup r)
  where
    by_reading : (reading : Result (List ℕ × Command) RequestFault) → code_of reading ≡ first_cause (causes setup r)
        → code_behind setup m now reading ≡ first_cause (causes setup r ++ grounds_behind setup m reading)
    by_reading (Ok request) is =
        sym (found_behind (causes setup r) (state_grounds setup m request.0 request.1) (sym is) ∙ answer_ground setup m request.0 request.1 now)
    by_reading (Err (RefusedReading code place)) is = sym (found_first (causes setup r) [] code (sym is))
    by_reading (Err OutOfMemory) is = sym (found_behind (causes setup r) [] (sym is))
