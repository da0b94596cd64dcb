-- The methods that each route has.
use Rattle.std.specs.Option.{option_map_or}
use Rattle.std.specs.Prelude.{Err, List, None, Ok, Option, Result, Some, codes, if◌then◌else◌, ℕ}
use Rattle.std.specs.Str.{bytes_eq}
use Rattle.gt_types.specs.declared.reply.ReplyCode.{ReplyCode}
use Rattle.gt_types.specs.declared.reply.ReplyCode.TheVariants.{MethodNotAllowed, NotFound}
use Rattle.gt_requests.specs.declared.action.Action.{Action}
use Rattle.gt_requests.specs.declared.action.Action.TheVariants as action
use Rattle.gt_requests.specs.declared.action.Method.{Method}
use Rattle.gt_requests.specs.declared.action.Method.TheVariants.{Delete, Get, Post, Put}
use Rattle.gt_requests.specs.declared.resource.Resource.{Resource}
use Rattle.gt_requests.specs.declared.resource.Resource.TheVariants as resource

-- the method of this name
abbrev pub method_of : List ℕ → Option Method
method_of name =
    if bytes_eq name (codes "GET") then Some Get
    else if bytes_eq name (codes "POST") then Some Post
    else if bytes_eq name (codes "PUT") then Some Put
    else if bytes_eq name (codes "DELETE") then Some Delete
    else None

-- what each method asks of each resource; PUT of a task is no resource, and every other method is not allowed
abbrev pub action_at : Resource → Method → Result Action ReplyCode
action_at resource.SubmissionId Get = Ok action.IssueId
action_at resource.Transfer Post = Ok action.SubmitTransfer
action_at resource.TaskList Get = Ok action.ListTasks
action_at resource.Task Get = Ok action.ShowTask
action_at resource.Task Put = Err NotFound
action_at resource.Successes Get = Ok action.ListSuccesses
action_at resource.Skipped Get = Ok action.ListSkipped
action_at resource.Endpoint Get = Ok action.ShowEndpoint
action_at resource.AccessList Get = Ok action.ListAccess
action_at resource.AccessRules Post = Ok action.AddAccess
action_at resource.AccessRule Get = Ok action.ShowAccess
action_at resource.AccessRule Delete = Ok action.EndAccess
action_at resource.AccessRule Put = Ok action.ReplaceAccess
action_at _ _ = Err MethodNotAllowed

-- what the method asks of the resource, or the code of the refusal
unfoldable pub action_of : Resource → List ℕ → Result Action ReplyCode
action_of resource name = option_map_or (action_at resource) (method_of name) (Err MethodNotAllowed)
