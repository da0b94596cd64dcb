-- The words of documents that other outputs print too.
use Rattle.gt_types.specs.declared.code.Status.{Status}
use Rattle.gt_types.specs.declared.code.Status.TheVariants.{Active, Failed, Succeeded}
use Rattle.gt_types.specs.declared.rule.Principal.{Principal}
use Rattle.gt_types.specs.declared.rule.Principal.TheVariants.{AllAuthenticated, Anonymous, Group, Identity}
use Rattle.std.specs.Prelude.{Bool, List, codes, if◌then◌else◌, ℕ}

-- the type of a task
abbrev pub type_name : Bool → List ℕ
type_name is_delete = if is_delete then codes "DELETE" else codes "TRANSFER"

-- the state of a task
abbrev pub status_name : Status → List ℕ
status_name Active = codes "ACTIVE"
status_name Succeeded = codes "SUCCEEDED"
status_name Failed = codes "FAILED"

-- the type of a principal
abbrev pub principal_type : Principal → List ℕ
principal_type (Identity id) = codes "identity"
principal_type (Group id) = codes "group"
principal_type AllAuthenticated = codes "all_authenticated_users"
principal_type Anonymous = codes "anonymous"

-- to read, or to read and write
abbrev pub permissions_text : Bool → List ℕ
permissions_text write = if write then codes "rw" else codes "r"
