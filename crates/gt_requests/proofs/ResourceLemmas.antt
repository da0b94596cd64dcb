-- Each resource stands once in the table of resources.
use Rattle.std.proofs.Common.{◌≡◌, ℕ, zero, suc, List, [], ◌∷◌, refl}
use Rattle.gt_requests.specs.Resources.{resources}
use Rattle.gt_requests.specs.declared.resource.Resource.{Resource}
use Rattle.gt_requests.specs.declared.resource.Resource.TheVariants as resource

-- the resource at this place of a list
abbrev pub At : Resource → List Resource → ℕ → Type 0
At r [] i = ⊥
At r (q ∷ qs) zero = q ≡ r
At r (q ∷ qs) (suc i) = At r qs i

pub listed : (r : Resource) → (i : ℕ) × At r resources i
listed resource.SubmissionId = (0, refl)
listed resource.Transfer = (1, refl)
listed resource.TaskList = (2, refl)
listed resource.Task = (3, refl)
listed resource.Successes = (4, refl)
listed resource.Skipped = (5, refl)
listed resource.Endpoint = (6, refl)
listed resource.AccessList = (7, refl)
listed resource.AccessRules = (8, refl)
listed resource.AccessRule = (9, refl)
