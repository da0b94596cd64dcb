-- On which grounds a request is refused, in their order: first those that need no state.
use Rattle.std.specs.List.{list_any}
use Rattle.std.specs.Prelude.{Bool, Err, List, None, Ok, Option, Result, Some, [], false, is_none, length, not, true, ℕ, ◌&&◌, ◌++◌, ◌∷◌, ◌≡◌}
use Rattle.gt_access.specs.Rule.{is_same_rule}
use Rattle.gt_machine.specs.Answer.{answer_of}
use Rattle.gt_machine.specs.Decision.{said}
use Rattle.gt_machine.specs.MachineState.{MachineState}
use Rattle.gt_machine.specs.Named.{rule_named, task_named}
use Rattle.gt_machine.specs.RuleSteps.{has_room}
use Rattle.gt_machine.specs.TaskSteps.{can_issue, is_full}
use Rattle.gt_requests.specs.Causes.{Asked, causes, first_cause}
use Rattle.gt_requests.specs.Request.{request_of}
use Rattle.gt_requests.specs.declared.fault.RequestFault.{RequestFault}
use Rattle.gt_requests.specs.declared.fault.RequestFault.TheVariants.{OutOfMemory, Refused as RefusedReading}
use Rattle.gt_setup.specs.Setup.{Setup, is_owner}
use Rattle.gt_tasks.specs.Tasks.{number_of}
use Rattle.gt_types.specs.declared.command.Command.{Command}
use Rattle.gt_types.specs.declared.command.Command.TheVariants.{AddAccess, AddPause, CancelTask, EndAccess, EndPause, IssueId, ListAccess, ListPauses, ListSkipped, ListSuccesses, ReplaceAccess, ShowAccess, ShowPause, ShowTask, SubmitDelete, SubmitTransfer, UpdateTask}
use Rattle.gt_types.specs.declared.reply.Reply.{Reply}
use Rattle.gt_types.specs.declared.reply.Reply.TheVariants.{Refused}
use Rattle.gt_types.specs.declared.reply.ReplyCode.{ReplyCode}
use Rattle.gt_types.specs.declared.reply.ReplyCode.TheVariants.{Exists, LimitReached, NotFound, PermissionDenied, RuleNotFound, TaskNotFound}

-- the command is one of a later request
abbrev pub is_later : Command → Bool
is_later (SubmitDelete submission spec) = true
is_later (UpdateTask task label deadline) = true
is_later (CancelTask task) = true
is_later ListPauses = true
is_later (AddPause spec) = true
is_later (ShowPause rule) = true
is_later (EndPause rule) = true
is_later _ = false

-- the collection whose access rules are asked for isn't the caller's
abbrev pub is_denied : Setup → List ℕ → Command → Bool
is_denied setup identity (ListAccess collection) = not (is_owner setup identity collection)
is_denied setup identity (AddAccess collection spec) = not (is_owner setup identity collection)
is_denied setup identity (ShowAccess collection rule) = not (is_owner setup identity collection)
is_denied setup identity (EndAccess collection rule) = not (is_owner setup identity collection)
is_denied setup identity (ReplaceAccess collection rule write) = not (is_owner setup identity collection)
is_denied setup identity _ = false

-- the caller has no task with the identifier
abbrev pub lacks_task : Setup → MachineState → List ℕ → Command → Bool
lacks_task setup m identity (ShowTask task) = is_none (task_named setup m identity task)
lacks_task setup m identity (ListSuccesses task limit offset) = is_none (task_named setup m identity task)
lacks_task setup m identity (ListSkipped task limit offset) = is_none (task_named setup m identity task)
lacks_task setup m identity _ = false

-- the collection has no live rule with the identifier
abbrev pub lacks_rule : Setup → MachineState → Command → Bool
lacks_rule setup m (ShowAccess collection rule) = is_none (rule_named setup m collection rule)
lacks_rule setup m (EndAccess collection rule) = is_none (rule_named setup m collection rule)
lacks_rule setup m (ReplaceAccess collection rule write) = is_none (rule_named setup m collection rule)
lacks_rule setup m _ = false

-- the collection has a live rule for the principal and the path
abbrev pub has_same : MachineState → Command → Bool
has_same m (AddAccess collection spec) = list_any (is_same_rule collection spec) m.access
has_same m _ = false

-- there is no room for what would be made; a repeat makes nothing
abbrev pub is_at_limit : MachineState → List ℕ → Command → Bool
is_at_limit m identity IssueId = not (can_issue m)
is_at_limit m identity (SubmitTransfer submission spec) =
    is_none (number_of identity submission m.tasks) && is_full m (length spec.entries)
is_at_limit m identity (AddAccess collection spec) = not (has_room m.access)
is_at_limit m identity (ReplaceAccess collection rule write) = not (has_room m.access)
is_at_limit m identity _ = false

-- the grounds that need the state
abbrev pub state_grounds : Setup → MachineState → List ℕ → Command → List (ReplyCode × Bool)
state_grounds setup m identity command =
    (NotFound, is_later command)
    ∷ (PermissionDenied, is_denied setup identity command)
    ∷ (TaskNotFound, lacks_task setup m identity command)
    ∷ (RuleNotFound, lacks_rule setup m command)
    ∷ (Exists, has_same m command)
    ∷ (LimitReached, is_at_limit m identity command)
    ∷ []

abbrev pub grounds_behind : Setup → MachineState → Result (List ℕ × Command) RequestFault → List (ReplyCode × Bool)
grounds_behind setup m (Ok request) = state_grounds setup m request.0 request.1
grounds_behind setup m (Err fault) = []

-- all grounds, each with its code, on the settled state; a journal that fails, and want of memory, are apart
abbrev pub grounds : Setup → MachineState → Asked → List (ReplyCode × Bool)
grounds setup m r = causes setup r ++ grounds_behind setup m (request_of setup r.method r.target r.token r.body)

-- the code of a reply that is a refusal
abbrev pub code_in : Reply → Option ReplyCode
code_in (Refused code) = Some code
code_in _ = None

-- the code with which a request of this reading is refused on this state
abbrev pub code_behind : Setup → MachineState → ℕ → Result (List ℕ × Command) RequestFault → Option ReplyCode
code_behind setup m now (Ok request) = code_in (said (answer_of setup m request.0 request.1 now))
code_behind setup m now (Err (RefusedReading code place)) = Some code
code_behind setup m now (Err OutOfMemory) = None

-- a request is refused with the code of the first ground that holds, and else it isn't
abbrev pub FirstGroundRefuses : Type 0
FirstGroundRefuses =
    (setup : Setup) (m : MachineState) (r : Asked) (now : ℕ)
    → code_behind setup m now (request_of setup r.method r.target r.token r.body) ≡ first_cause (grounds setup m r)
