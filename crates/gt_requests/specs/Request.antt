-- A request as it is read: the caller and the command, or the first refusal that needs no state.
use Rattle.std.specs.Prelude.{Err, List, Ok, Option, Result, [], length, nat_le, ok_or, option_and_then, option_map, ℕ}
use Rattle.std.specs.Result.{result_map_both}
use Rattle.gt_setup.specs.Setup.{Setup, collection_of, identity_of}
use Rattle.gt_types.specs.declared.command.Command.{Command}
use Rattle.gt_types.specs.declared.command.Command.TheVariants.{AddAccess, EndAccess, IssueId, ListAccess, ListSkipped, ListSuccesses, ListTasks, ReplaceAccess, ShowAccess, ShowEndpoint, ShowTask, SubmitTransfer}
use Rattle.gt_types.specs.declared.reply.ReplyCode.TheVariants.{AuthenticationFailed, BadRequest, EndpointNotFound, NotFound, RuleNotFound, TaskNotFound, TooLarge}
use Rattle.gt_documents.specs.Members.{object_of}
use Rattle.gt_documents.specs.Place.{Place, place_text}
use Rattle.gt_documents.specs.Query.{page_at}
use Rattle.gt_documents.specs.Reading.{unless_not}
use Rattle.gt_values.specs.Results.{◌>>=◌}
use Rattle.gt_requests.specs.Access.{access_of, permission_of}
use Rattle.gt_requests.specs.Actions.{action_of}
use Rattle.gt_requests.specs.Resources.{resource_at}
use Rattle.gt_requests.specs.Target.{front_of, piece_id, query_of}
use Rattle.gt_requests.specs.Transfer.{home_or_root, spec_of, submission_of}
use Rattle.gt_requests.specs.declared.action.Action.{Action}
use Rattle.gt_requests.specs.declared.action.Action.TheVariants as action
use Rattle.gt_requests.specs.declared.fault.RequestFault.{RequestFault}
use Rattle.gt_requests.specs.declared.fault.RequestFault.TheVariants.{Refused}
use Rattle.gt_requests.specs.declared.refusal.Refusal.{Refusal}
use Rattle.gt_requests.specs.declared.refusal.Refusal.TheVariants.{Bad, Plain}

-- a document or a query, whose bad place is the refusal's
abbrev pub document : {A : Type 0} → Result A Place → Result A Refusal
document (Ok a) = Ok a
document (Err place) = Err (Bad place)

-- the collection that the front names, if the setup has it
unfoldable pub known_in : Setup → List ℕ → Option ℕ
known_in setup front = option_and_then (collection_of setup) (piece_id front 3)

-- the collection, the task or the rule that the front names
abbrev pub collection_in : Setup → List ℕ → Result ℕ Refusal
collection_in setup front = ok_or (known_in setup front) (Plain EndpointNotFound)

abbrev pub task_in : List ℕ → Result (List ℕ) Refusal
task_in front = ok_or (piece_id front 3) (Plain TaskNotFound)

abbrev pub rule_in : Setup → List ℕ → Result (ℕ × List ℕ) Refusal
rule_in setup front = do
  collection ← collection_in setup front
  rule ← ok_or (piece_id front 5) (Plain RuleNotFound)
  Ok (collection, rule)

-- the collection with this identifier
abbrev pub collection_with : Setup → List ℕ → Result ℕ Refusal
collection_with setup id = ok_or (collection_of setup id) (Plain EndpointNotFound)

-- the transfer that a document asks: the document, then its source, then its destination
unfoldable pub submit_of : Setup → List ℕ → Result Command Refusal
submit_of setup body = do
  submission ← document (object_of body >>= λ d. submission_of setup d)
  source ← collection_with setup submission.ends.source
  destination ← collection_with setup submission.ends.destination
  Ok (SubmitTransfer submission.ends.submission (spec_of submission source destination))

-- the rule that a document adds: the document, then the collection
unfoldable pub add_access_of : Setup → List ℕ → List ℕ → Result Command Refusal
add_access_of setup front body = do
  spec ← document (object_of body >>= λ d. access_of (home_or_root setup (known_in setup front)) d)
  collection ← collection_in setup front
  Ok (AddAccess collection spec)

-- the permission that a document gives a rule: the document, then the collection, then the rule
unfoldable pub replace_access_of : Setup → List ℕ → List ℕ → Result Command Refusal
replace_access_of setup front body = do
  write ← document (object_of body >>= λ d. permission_of d)
  named ← rule_in setup front
  Ok (ReplaceAccess named.0 named.1 write)

-- a page of the caller's tasks
unfoldable pub tasks_of : List ℕ → Result Command Refusal
tasks_of query = do
  page ← document (page_at query)
  Ok (ListTasks page.limit page.offset)

-- a rule of a collection: the collection, then the rule
unfoldable pub rule_of : (ℕ → List ℕ → Command) → Setup → List ℕ → Result Command Refusal
rule_of command setup front = do
  named ← rule_in setup front
  Ok (command named.0 named.1)

-- a page of a task's rows: the query, then the task
unfoldable pub rows_of : (List ℕ → ℕ → ℕ → Command) → List ℕ → List ℕ → Result Command Refusal
rows_of command front query = do
  page ← document (page_at query)
  task ← task_in front
  Ok (command task page.limit page.offset)

-- the command of each action, read from the target's front, its query and the body
unfoldable pub command_of : Setup → Action → List ℕ → List ℕ → List ℕ → Result Command Refusal
command_of setup action.IssueId front query body = Ok IssueId
command_of setup action.SubmitTransfer front query body = submit_of setup body
command_of setup action.ListTasks front query body = tasks_of query
command_of setup action.ShowTask front query body = task_in front >>= λ task. Ok (ShowTask task)
command_of setup action.ListSuccesses front query body = rows_of ListSuccesses front query
command_of setup action.ListSkipped front query body = rows_of ListSkipped front query
command_of setup action.ShowEndpoint front query body = collection_in setup front >>= λ c. Ok (ShowEndpoint c)
command_of setup action.ListAccess front query body = collection_in setup front >>= λ c. Ok (ListAccess c)
command_of setup action.AddAccess front query body = add_access_of setup front body
command_of setup action.ShowAccess front query body = rule_of ShowAccess setup front
command_of setup action.EndAccess front query body = rule_of EndAccess setup front
command_of setup action.ReplaceAccess front query body = replace_access_of setup front body

-- the identity of a token
unfoldable pub caller_of : Setup → Option (List ℕ) → Option (List ℕ)
caller_of setup token = option_map (λ who. who.identity) (option_and_then (identity_of setup) token)

-- what a request asks, by its method and its target's front: the route, then the method
unfoldable pub route_of : List ℕ → List ℕ → Result Action Refusal
route_of method front = do
  resource ← ok_or (resource_at front) (Plain NotFound)
  result_map_both (λ action. action) Plain (action_of resource method)

-- the refusals that need no state, in their order
unfoldable pub read_of : Setup → List ℕ → List ℕ → Option (List ℕ) → List ℕ → Result (List ℕ × Command) Refusal
read_of setup method target token body = do
  _ ← unless_not (nat_le (length body) 4194304) (Plain TooLarge)
  action ← route_of method (front_of target)
  caller ← ok_or (caller_of setup token) (Plain AuthenticationFailed)
  command ← command_of setup action (front_of target) (query_of target) body
  Ok (caller, command)

-- how a refusal is told
abbrev pub told : Refusal → RequestFault
told (Plain code) = Refused code []
told (Bad place) = Refused BadRequest (place_text place)

-- a request under a setup, from its method, target, token and body
unfoldable pub request_of : Setup → List ℕ → List ℕ → Option (List ℕ) → List ℕ → Result (List ℕ × Command) RequestFault
request_of setup method target token body = result_map_both (λ r. r) told (read_of setup method target token body)
