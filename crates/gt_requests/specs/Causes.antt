-- When a request is refused that needs no state: the causes, in their order.
use Rattle.std.specs.Prelude.{Bool, Err, List, None, Ok, Option, Result, Some, [], false, if◌then◌else◌, is_err, is_none, length, nat_le, not, true, ℕ, ◌||◌, ◌≡◌, ◌∷◌}
use Rattle.std.specs.Option.{option_map_or}
use Rattle.std.specs.Result.{result_ok}
use Rattle.gt_documents.specs.Members.{object_of}
use Rattle.gt_documents.specs.Place.{Place}
use Rattle.gt_documents.specs.Query.{page_at}
use Rattle.gt_setup.specs.Setup.{Setup, collection_of}
use Rattle.gt_types.specs.declared.command.Command.{Command}
use Rattle.gt_types.specs.declared.reply.ReplyCode.{ReplyCode}
use Rattle.gt_types.specs.declared.reply.ReplyCode.TheVariants.{AuthenticationFailed, BadRequest, EndpointNotFound, MethodNotAllowed, NotFound, RuleNotFound, TaskNotFound, TooLarge}
use Rattle.gt_values.specs.Results.{◌>>=◌}
use Rattle.gt_requests.specs.Access.{access_of, permission_of}
use Rattle.gt_requests.specs.Actions.{action_at, method_of}
use Rattle.gt_requests.specs.Request.{caller_of, known_in, request_of}
use Rattle.gt_requests.specs.Resources.{resource_at}
use Rattle.gt_requests.specs.Target.{front_of, piece_id, query_of}
use Rattle.gt_requests.specs.Transfer.{home_or_root, submission_of}
use Rattle.gt_requests.specs.declared.action.Action.{Action}
use Rattle.gt_requests.specs.declared.action.Action.TheVariants as action
use Rattle.gt_requests.specs.declared.action.Method.{Method}
use Rattle.gt_requests.specs.declared.action.Method.TheVariants.{Put}
use Rattle.gt_requests.specs.declared.fault.RequestFault.{RequestFault}
use Rattle.gt_requests.specs.declared.fault.RequestFault.TheVariants as fault
use Rattle.gt_requests.specs.declared.resource.Resource.{Resource}
use Rattle.gt_requests.specs.declared.resource.Resource.TheVariants as resource
use Rattle.gt_requests.specs.declared.transfer.Submission.{Submission}

-- the parts of a request
pub record Asked : Type 0 where
  pub method : List ℕ
  pub target : List ℕ
  pub token : Option (List ℕ)
  pub body : List ℕ

-- the body has more than 4,194,304 bytes
abbrev pub is_too_large : Asked → Bool
is_too_large r = not (nat_le (length r.body) 4194304)

-- PUT of a task is answered as no route
abbrev pub is_task_put : Resource → Method → Bool
is_task_put resource.Task Put = true
is_task_put _ _ = false

-- no route takes the target
abbrev pub is_no_route : Option Resource → Option Method → Bool
is_no_route None m = true
is_no_route (Some q) None = false
is_no_route (Some q) (Some m) = is_task_put q m

abbrev pub is_unknown : Asked → Bool
is_unknown r = is_no_route (resource_at (front_of r.target)) (method_of r.method)

-- what the method asks of the route, if the route has it
abbrev pub action_in : Option Resource → Option Method → Option Action
action_in None m = None
action_in (Some q) None = None
action_in (Some q) (Some m) = result_ok (action_at q m)

abbrev pub action_asked : Asked → Option Action
action_asked r = action_in (resource_at (front_of r.target)) (method_of r.method)

-- the query or the document is bad
abbrev pub is_bad : Setup → Asked → Action → Bool
is_bad setup r action.SubmitTransfer = is_err (object_of r.body >>= submission_of setup)
is_bad setup r action.AddAccess = is_err (object_of r.body >>= access_of (home_or_root setup (known_in setup (front_of r.target))))
is_bad setup r action.ReplaceAccess = is_err (object_of r.body >>= permission_of)
is_bad setup r action.ListTasks = is_err (page_at (query_of r.target))
is_bad setup r action.ListSuccesses = is_err (page_at (query_of r.target))
is_bad setup r action.ListSkipped = is_err (page_at (query_of r.target))
is_bad setup r _ = false

-- the setup lacks the source or the destination of a document
abbrev pub lacks_ends : Setup → Result Submission Place → Bool
lacks_ends setup (Ok s) = is_none (collection_of setup s.ends.source) || is_none (collection_of setup s.ends.destination)
lacks_ends setup (Err place) = false

-- the setup lacks a collection that is named
abbrev pub lacks_collection : Setup → Asked → Action → Bool
lacks_collection setup r action.SubmitTransfer = lacks_ends setup (object_of r.body >>= submission_of setup)
lacks_collection setup r action.IssueId = false
lacks_collection setup r action.ListTasks = false
lacks_collection setup r action.ShowTask = false
lacks_collection setup r action.ListSuccesses = false
lacks_collection setup r action.ListSkipped = false
lacks_collection setup r _ = is_none (known_in setup (front_of r.target))

-- the identifier of a task is none
abbrev pub lacks_task : Asked → Action → Bool
lacks_task r action.ShowTask = is_none (piece_id (front_of r.target) 3)
lacks_task r action.ListSuccesses = is_none (piece_id (front_of r.target) 3)
lacks_task r action.ListSkipped = is_none (piece_id (front_of r.target) 3)
lacks_task r _ = false

-- the identifier of a rule is none
abbrev pub lacks_rule : Asked → Action → Bool
lacks_rule r action.ShowAccess = is_none (piece_id (front_of r.target) 5)
lacks_rule r action.EndAccess = is_none (piece_id (front_of r.target) 5)
lacks_rule r action.ReplaceAccess = is_none (piece_id (front_of r.target) 5)
lacks_rule r _ = false

-- what holds of the action, if one is asked
abbrev pub of_action : (Action → Bool) → Option Action → Bool
of_action test asked = option_map_or test asked false

-- each cause of a refusal, with its code, in their order
abbrev pub causes : Setup → Asked → List (ReplyCode × Bool)
causes setup r =
    (TooLarge, is_too_large r)
    ∷ (NotFound, is_unknown r)
    ∷ (MethodNotAllowed, is_none (action_asked r))
    ∷ (AuthenticationFailed, is_none (caller_of setup r.token))
    ∷ (BadRequest, of_action (is_bad setup r) (action_asked r))
    ∷ (EndpointNotFound, of_action (lacks_collection setup r) (action_asked r))
    ∷ (TaskNotFound, of_action (lacks_task r) (action_asked r))
    ∷ (RuleNotFound, of_action (lacks_rule r) (action_asked r))
    ∷ []

-- the code of the first cause that holds
abbrev pub first_cause : List (ReplyCode × Bool) → Option ReplyCode
first_cause [] = None
first_cause ((code, holds) ∷ rest) = if holds then Some code else first_cause rest

-- the code of a refusal
abbrev pub code_of : Result (List ℕ × Command) RequestFault → Option ReplyCode
code_of (Ok request) = None
code_of (Err (fault.Refused code place)) = Some code
code_of (Err fault.OutOfMemory) = None

-- a request is refused with the code of the first cause that holds, and read where none does
abbrev pub FirstCauseRefuses : Type 0
FirstCauseRefuses = (setup : Setup) (r : Asked) → code_of (request_of setup r.method r.target r.token r.body) ≡ first_cause (causes setup r)
