-- Which paths a route takes: a byte stands for itself, and a parameter for one piece without a slash that isn't empty.
use Rattle.std.specs.Prelude.{Bool, List, None, Option, Some, [], codes, false, if◌then◌else◌, not, true, ℕ, ◌&&◌, ◌==◌, ◌∷◌}
use Rattle.matchit.specs.Rows.{param_token}
use Rattle.matchit.specs.Seek.{slash}
use Rattle.gt_requests.specs.declared.resource.Resource.{Resource}
use Rattle.gt_requests.specs.declared.resource.Resource.TheVariants as resource

-- all resources
abbrev pub resources : List Resource
resources =
    resource.SubmissionId ∷ resource.Transfer ∷ resource.TaskList ∷ resource.Task ∷ resource.Successes ∷ resource.Skipped
    ∷ resource.Endpoint ∷ resource.AccessList ∷ resource.AccessRules ∷ resource.AccessRule ∷ []

-- the route of each, with a parameter between braces
abbrev pub route_text : Resource → List ℕ
route_text resource.SubmissionId = codes "/v0.10/submission_id"
route_text resource.Transfer = codes "/v0.10/transfer"
route_text resource.TaskList = codes "/v0.10/task_list"
route_text resource.Task = codes "/v0.10/task/{id}"
route_text resource.Successes = codes "/v0.10/task/{id}/successful_transfers"
route_text resource.Skipped = codes "/v0.10/task/{id}/skipped_errors"
route_text resource.Endpoint = codes "/v0.10/endpoint/{id}"
route_text resource.AccessList = codes "/v0.10/endpoint/{id}/access_list"
route_text resource.AccessRules = codes "/v0.10/endpoint/{id}/access"
route_text resource.AccessRule = codes "/v0.10/endpoint/{id}/access/{rule}"

-- the tokens of a route's text; `inside` says that a brace is open
abbrev pub tokens_of : Bool → List ℕ → List ℕ
tokens_of inside [] = []
tokens_of false (b ∷ text) = if b == 123 then param_token ∷ tokens_of true text else b ∷ tokens_of false text
tokens_of true (b ∷ text) = if b == 125 then tokens_of false text else tokens_of true text

-- the pattern of a route
abbrev pub pattern : Resource → List ℕ
pattern r = tokens_of false (route_text r)

abbrev pub is_over : List ℕ → Bool
is_over [] = true
is_over (t ∷ ts) = false

-- the pattern takes the whole path; `inside` says that a parameter has taken a byte and may take more
abbrev pub fits : Bool → List ℕ → List ℕ → Bool
fits inside pattern [] = is_over pattern
fits false [] (b ∷ path) = false
fits false (t ∷ ts) (b ∷ path) = if t == param_token then not (b == slash) && fits true ts path else t == b && fits false ts path
fits true [] (b ∷ path) = if b == slash then false else fits true [] path
fits true (t ∷ ts) (b ∷ path) = if b == slash then t == slash && fits false ts path else fits true (t ∷ ts) path

-- the path is one of the resource's
abbrev pub is_at : Resource → List ℕ → Bool
is_at r path = fits false (pattern r) path

-- the first of these resources that the path is at
abbrev pub find_resource : List Resource → List ℕ → Option Resource
find_resource [] path = None
find_resource (r ∷ rs) path = if is_at r path then Some r else find_resource rs path

-- the resource of a path
unfoldable pub resource_at : List ℕ → Option Resource
resource_at path = find_resource resources path
