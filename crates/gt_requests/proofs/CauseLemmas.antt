-- The first cause refuses.
use Rattle.std.proofs.Common.{◌≡◌, ℕ, Bool, true, false, cond, not, ◌||◌, List, [], ◌∷◌, length, Option, Some, None, Result, Ok, Err, is_err, is_none, refl, ap, ◌∙◌, nat_le, ok_or}
use Rattle.std.specs.Option.{option_map_or}
use Rattle.std.specs.Result.{result_map_both, result_ok}
use Rattle.gt_documents.specs.Members.{object_of}
use Rattle.gt_documents.specs.Place.{Place}
use Rattle.gt_documents.specs.Query.{page_at}
use Rattle.gt_documents.specs.Reading.{unless_not}
use Rattle.gt_documents.specs.declared.query.Page.{Page}
use Rattle.gt_setup.specs.Setup.{Setup, collection_of}
use Rattle.gt_types.specs.declared.command.Command.{Command}
use Rattle.gt_types.specs.declared.command.Command.TheVariants.{ListSkipped, ListSuccesses, ListTasks, ShowAccess, EndAccess, ReplaceAccess, AddAccess, SubmitTransfer, ShowTask, ShowEndpoint, ListAccess}
use Rattle.gt_types.specs.declared.reply.ReplyCode.{ReplyCode}
use Rattle.gt_types.specs.declared.reply.ReplyCode.TheVariants.{AuthenticationFailed, BadRequest, EndpointNotFound, MethodNotAllowed, NotFound, RuleNotFound, TaskNotFound, TooLarge}
use Rattle.gt_types.specs.declared.rule.AccessSpec.{AccessSpec}
use Rattle.gt_values.specs.Results.{◌>>=◌}
use Rattle.gt_requests.specs.Access.{access_of, permission_of}
use Rattle.gt_requests.specs.Actions.{action_at, action_of, method_of}
use Rattle.gt_requests.specs.Causes.{Asked, FirstCauseRefuses, action_in, code_of, first_cause, is_bad, is_no_route, is_task_put, lacks_collection, lacks_ends, lacks_rule, lacks_task, of_action}
use Rattle.gt_requests.specs.Request.{add_access_of, caller_of, collection_with, command_of, document, known_in, read_of, replace_access_of, request_of, route_of, rows_of, rule_of, submit_of, tasks_of, told}
use Rattle.gt_requests.specs.Resources.{resource_at}
use Rattle.gt_requests.specs.Target.{front_of, piece_id, query_of}
use Rattle.gt_requests.specs.Transfer.{home_or_root, submission_of, spec_of}
use Rattle.gt_requests.specs.declared.action.Action.{Action}
use Rattle.gt_requests.specs.declared.action.Action.TheVariants as action
use Rattle.gt_requests.specs.declared.action.Method.{Method}
use Rattle.gt_requests.specs.declared.action.Method.TheVariants.{Delete, Get, Post, Put}
use Rattle.gt_requests.specs.declared.refusal.Refusal.{Refusal}
use Rattle.gt_requests.specs.declared.refusal.Refusal.TheVariants as refusal
use Rattle.gt_requests.specs.declared.resource.Resource.{Resource}
use Rattle.gt_requests.specs.declared.resource.Resource.TheVariants as resource
use Rattle.gt_requests.specs.declared.transfer.Submission.{Submission}

-- the code of a reading's refusal
abbrev refused : {A : Type 0} → Result A Refusal → Option ReplyCode
refused (Ok a) = None
refused (Err (refusal.Plain code)) = Some code
refused (Err (refusal.Bad place)) = Some BadRequest

code_told : (x : Result (List ℕ × Command) Refusal) → code_of (result_map_both (λ r. r) told x) ≡ refused x
code_told (Ok request) = refl
code_told (Err (refusal.Plain code)) = refl
code_told (Err (refusal.Bad place)) = refl

-- ---- each action

page_refused : (p : Result Page Place) → refused (document p >>= λ page. Ok (ListTasks page.limit page.offset)) ≡ cond (is_err p) (Some BadRequest) None
page_refused (Ok page) = refl
page_refused (Err place) = refl

rows_refused : (command : List ℕ → ℕ → ℕ → Command) (p : Result Page Place) (task : Option (List ℕ))
    → refused (document p >>= λ page. ok_or task (refusal.Plain TaskNotFound) >>= λ id. Ok (command id page.limit page.offset))
    ≡ cond (is_err p) (Some BadRequest) (cond (is_none task) (Some TaskNotFound) None)
rows_refused command (Ok page) (Some task) = refl
rows_refused command (Ok page) None = refl
rows_refused command (Err place) task = refl

task_refused : (task : Option (List ℕ)) → refused (ok_or task (refusal.Plain TaskNotFound) >>= λ id. Ok (ShowTask id)) ≡ cond (is_none task) (Some TaskNotFound) None
task_refused (Some task) = refl
task_refused None = refl

collection_refused : (command : ℕ → Command) (known : Option ℕ)
    → refused (ok_or known (refusal.Plain EndpointNotFound) >>= λ c. Ok (command c)) ≡ cond (is_none known) (Some EndpointNotFound) None
collection_refused command (Some c) = refl
collection_refused command None = refl

-- a collection and a rule of it
abbrev named : Option ℕ → Option (List ℕ) → Result (ℕ × List ℕ) Refusal
named known rule = ok_or known (refusal.Plain EndpointNotFound) >>= λ c. ok_or rule (refusal.Plain RuleNotFound) >>= λ id. Ok (c, id)

rule_refused : (command : ℕ → List ℕ → Command) (known : Option ℕ) (rule : Option (List ℕ))
    → refused (named known rule >>= λ n. Ok (command n.0 n.1)) ≡ cond (is_none known) (Some EndpointNotFound) (cond (is_none rule) (Some RuleNotFound) None)
rule_refused command (Some c) (Some rule) = refl
rule_refused command (Some c) None = refl
rule_refused command None rule = refl

add_refused : (x : Result AccessSpec Place) (known : Option ℕ)
    → refused (document x >>= λ spec. ok_or known (refusal.Plain EndpointNotFound) >>= λ c. Ok (AddAccess c spec))
    ≡ cond (is_err x) (Some BadRequest) (cond (is_none known) (Some EndpointNotFound) None)
add_refused (Ok spec) (Some c) = refl
add_refused (Ok spec) None = refl
add_refused (Err place) known = refl

replace_refused : (x : Result Bool Place) (known : Option ℕ) (rule : Option (List ℕ))
    → refused (document x >>= λ write. named known rule >>= λ n. Ok (ReplaceAccess n.0 n.1 write))
    ≡ cond (is_err x) (Some BadRequest) (cond (is_none known) (Some EndpointNotFound) (cond (is_none rule) (Some RuleNotFound) None))
replace_refused (Ok write) (Some c) (Some rule) = refl
replace_refused (Ok write) (Some c) None = refl
replace_refused (Ok write) None rule = refl
replace_refused (Err place) known rule = refl

ends_refused : (command : ℕ → ℕ → Command) (source destination : Option ℕ)
    → refused (ok_or source (refusal.Plain EndpointNotFound) >>= λ s. ok_or destination (refusal.Plain EndpointNotFound) >>= λ d. Ok (command s d))
    ≡ cond (is_none source || is_none destination) (Some EndpointNotFound) None
ends_refused command (Some s) (Some d) = refl
ends_refused command (Some s) None = refl
ends_refused command None destination = refl

submit_refused : (setup : Setup) (x : Result Submission Place)
    → refused (document x >>= λ s. collection_with setup s.ends.source >>= λ source. collection_with setup s.ends.destination >>= λ destination. Ok (SubmitTransfer s.ends.submission (spec_of s source destination)))
    ≡ cond (is_err x) (Some BadRequest) (cond (lacks_ends setup x) (Some EndpointNotFound) None)
submit_refused setup (Ok s) = ends_refused (λ source destination. SubmitTransfer s.ends.submission (spec_of s source destination)) (collection_of setup s.ends.source) (collection_of setup s.ends.destination)
submit_refused setup (Err place) = refl

-- the causes that an action has
abbrev action_causes : Setup → Asked → Option Action → List (ReplyCode × Bool)
action_causes setup r a =
    (BadRequest, of_action (is_bad setup r) a)
    ∷ (EndpointNotFound, of_action (lacks_collection setup r) a)
    ∷ (TaskNotFound, of_action (lacks_task r) a)
    ∷ (RuleNotFound, of_action (lacks_rule r) a)
    ∷ []

abbrev command_in : Setup → Asked → Action → Result Command Refusal
command_in setup r a = command_of setup a (front_of r.target) (query_of r.target) r.body

command_refused : (setup : Setup) (r : Asked) (a : Action) → refused (command_in setup r a) ≡ first_cause (action_causes setup r (Some a))
unfolding command_of submit_of add_access_of replace_access_of tasks_of rule_of rows_of
command_refused setup r action.IssueId = refl
command_refused setup r action.SubmitTransfer = submit_refused setup (object_of r.body >>= submission_of setup)
command_refused setup r action.ListTasks = page_refused (page_at (query_of r.target))
command_refused setup r action.ShowTask = task_refused (piece_id (front_of r.target) 3)
command_refused setup r action.ListSuccesses = rows_refused ListSuccesses (page_at (query_of r.target)) (piece_id (front_of r.target) 3)
command_refused setup r action.ListSkipped = rows_refused ListSkipped (page_at (query_of r.target)) (piece_id (front_of r.target) 3)
command_refused setup r action.ShowEndpoint = collection_refused ShowEndpoint (known_in setup (front_of r.target))
command_refused setup r action.ListAccess = collection_refused ListAccess (known_in setup (front_of r.target))
command_refused setup r action.AddAccess =
    add_refused (object_of r.body >>= access_of (home_or_root setup (known_in setup (front_of r.target)))) (known_in setup (front_of r.target))
command_refused setup r action.ShowAccess = rule_refused ShowAccess (known_in setup (front_of r.target)) (piece_id (front_of r.target) 5)
command_refused setup r action.EndAccess = rule_refused EndAccess (known_in setup (front_of r.target)) (piece_id (front_of r.target) 5)
command_refused setup r action.ReplaceAccess = replace_refused (object_of r.body >>= permission_of) (known_in setup (front_of r.target)) (piece_id (front_of r.target) 5)

-- ---- the caller, the method and the route

-- the command of an action for its caller
abbrev behind : Option (List ℕ) → Result Command Refusal → Result (List ℕ × Command) Refusal
behind who command = ok_or who (refusal.Plain AuthenticationFailed) >>= λ caller. command >>= λ c. Ok (caller, c)

caller_refused : (who : Option (List ℕ)) (command : Result Command Refusal) → refused (behind who command) ≡ cond (is_none who) (Some AuthenticationFailed) (refused command)
caller_refused None command = refl
caller_refused (Some id) (Ok command) = refl
caller_refused (Some id) (Err (refusal.Plain code)) = refl
caller_refused (Some id) (Err (refusal.Bad place)) = refl

-- a method that a resource lacks is not allowed, but for PUT of a task
abbrev Agrees : Resource → Method → Result Action ReplyCode → Type 0
Agrees q m (Ok a) = is_task_put q m ≡ false
Agrees q m (Err code) = code ≡ cond (is_task_put q m) NotFound MethodNotAllowed

agrees : (q : Resource) (m : Method) → Agrees q m (action_at q m)
agrees resource.SubmissionId Get = refl
agrees resource.SubmissionId Post = refl
agrees resource.SubmissionId Put = refl
agrees resource.SubmissionId Delete = refl
agrees resource.Transfer Get = refl
agrees resource.Transfer Post = refl
agrees resource.Transfer Put = refl
agrees resource.Transfer Delete = refl
agrees resource.TaskList Get = refl
agrees resource.TaskList Post = refl
agrees resource.TaskList Put = refl
agrees resource.TaskList Delete = refl
agrees resource.Task Get = refl
agrees resource.Task Post = refl
agrees resource.Task Put = refl
agrees resource.Task Delete = refl
agrees resource.Successes Get = refl
agrees resource.Successes Post = refl
agrees resource.Successes Put = refl
agrees resource.Successes Delete = refl
agrees resource.Skipped Get = refl
agrees resource.Skipped Post = refl
agrees resource.Skipped Put = refl
agrees resource.Skipped Delete = refl
agrees resource.Endpoint Get = refl
agrees resource.Endpoint Post = refl
agrees resource.Endpoint Put = refl
agrees resource.Endpoint Delete = refl
agrees resource.AccessList Get = refl
agrees resource.AccessList Post = refl
agrees resource.AccessList Put = refl
agrees resource.AccessList Delete = refl
agrees resource.AccessRules Get = refl
agrees resource.AccessRules Post = refl
agrees resource.AccessRules Put = refl
agrees resource.AccessRules Delete = refl
agrees resource.AccessRule Get = refl
agrees resource.AccessRule Post = refl
agrees resource.AccessRule Put = refl
agrees resource.AccessRule Delete = refl

wrong_method : (code : ReplyCode) (is : Bool) → code ≡ cond is NotFound MethodNotAllowed → Some code ≡ cond is (Some NotFound) (Some MethodNotAllowed)
wrong_method code true e = ap Some e
wrong_method code false e = ap Some e

-- the causes from the caller on, and from the route on
abbrev caller_causes : Setup → Asked → Option Action → List (ReplyCode × Bool)
caller_causes setup r a = (AuthenticationFailed, is_none (caller_of setup r.token)) ∷ action_causes setup r a

abbrev route_causes : Setup → Asked → Option Resource → Option Method → List (ReplyCode × Bool)
route_causes setup r q m =
    (NotFound, is_no_route q m) ∷ (MethodNotAllowed, is_none (action_in q m)) ∷ caller_causes setup r (action_in q m)

method_refused : (setup : Setup) (r : Asked) (q : Resource) (m : Method) (x : Result Action ReplyCode) → Agrees q m x
    → refused (result_map_both (λ a. a) refusal.Plain x >>= λ a. behind (caller_of setup r.token) (command_in setup r a))
    ≡ first_cause ((NotFound, is_task_put q m) ∷ (MethodNotAllowed, is_none (result_ok x)) ∷ caller_causes setup r (result_ok x))
method_refused setup r q m (Ok a) e =
    rw e (caller_refused (caller_of setup r.token) (command_in setup r a) ∙ ap (cond (is_none (caller_of setup r.token)) (Some AuthenticationFailed)) (command_refused setup r a))
method_refused setup r q m (Err code) e = wrong_method code (is_task_put q m) e

-- what is read behind the route
abbrev routed : Setup → Asked → Option Resource → Option Method → Result (List ℕ × Command) Refusal
routed setup r q m =
    (ok_or q (refusal.Plain NotFound) >>= λ p. result_map_both (λ a. a) refusal.Plain (option_map_or (action_at p) m (Err MethodNotAllowed)))
    >>= λ a. behind (caller_of setup r.token) (command_in setup r a)

route_refused : (setup : Setup) (r : Asked) (q : Option Resource) (m : Option Method) → refused (routed setup r q m) ≡ first_cause (route_causes setup r q m)
route_refused setup r None m = refl
route_refused setup r (Some q) None = refl
route_refused setup r (Some q) (Some m) = method_refused setup r q m (action_at q m) (agrees q m)

body_refused : (setup : Setup) (r : Asked) (small : Bool)
    → refused (unless_not small (refusal.Plain TooLarge) >>= λ _. routed setup r (resource_at (front_of r.target)) (method_of r.method))
    ≡ first_cause ((TooLarge, not small) ∷ route_causes setup r (resource_at (front_of r.target)) (method_of r.method))
body_refused setup r true = route_refused setup r (resource_at (front_of r.target)) (method_of r.method)
body_refused setup r false = refl

pub first_cause_refuses : FirstCauseRefuses
unfolding request_of read_of route_of action_of
first_cause_refuses setup r =
    code_told (read_of setup r.method r.target r.token r.body) ∙ body_refused setup r (nat_le (length r.body) 4194304)
