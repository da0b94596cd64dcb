-- The access documents, whose members are tested in this order.
use Rattle.std.specs.Prelude.{Bool, List, None, Ok, Option, Result, Some, codes, false, if◌then◌else◌, ok_or, option_and_then, true, ℕ}
use Rattle.std.specs.Str.{bytes_eq}
use Rattle.serde_json.specs.Data.{Data}
use Rattle.gt_documents.specs.Members.{constant_at, id_at, path_at, word_at}
use Rattle.gt_documents.specs.Place.{Place, member_place}
use Rattle.gt_paths.specs.Path.{PathValue}
use Rattle.gt_types.specs.declared.rule.AccessSpec.{AccessSpec}
use Rattle.gt_types.specs.declared.rule.Principal.{Principal}
use Rattle.gt_types.specs.declared.rule.Principal.TheVariants as principal
use Rattle.gt_values.specs.Results.{◌>>=◌}
use Rattle.gt_requests.specs.declared.access.PrincipalType.{PrincipalType}
use Rattle.gt_requests.specs.declared.access.PrincipalType.TheVariants as type

-- the four types of principals
abbrev pub type_of : List ℕ → Option PrincipalType
type_of text =
    if bytes_eq text (codes "identity") then Some type.Identity
    else if bytes_eq text (codes "group") then Some type.Group
    else if bytes_eq text (codes "all_authenticated_users") then Some type.AllAuthenticated
    else if bytes_eq text (codes "anonymous") then Some type.Anonymous
    else None

unfoldable pub type_at : Data → Result PrincipalType Place
type_at d = ok_or (option_and_then type_of (word_at d (codes "principal_type"))) (member_place (codes "principal_type"))

-- the first two types have an identifier, and it isn't read for the others
abbrev pub principal_as : PrincipalType → Data → Result Principal Place
principal_as type.Identity d = id_at d (codes "principal") >>= λ id. Ok (principal.Identity id)
principal_as type.Group d = id_at d (codes "principal") >>= λ id. Ok (principal.Group id)
principal_as type.AllAuthenticated d = Ok principal.AllAuthenticated
principal_as type.Anonymous d = Ok principal.Anonymous

unfoldable pub principal_at : Data → Result Principal Place
principal_at d = type_at d >>= λ type. principal_as type d

-- whether the permission is to write too
abbrev pub write_of : List ℕ → Option Bool
write_of text =
    if bytes_eq text (codes "r") then Some false
    else if bytes_eq text (codes "rw") then Some true
    else None

unfoldable pub write_at : Data → Result Bool Place
write_at d = ok_or (option_and_then write_of (word_at d (codes "permissions"))) (member_place (codes "permissions"))

-- a new rule on a collection with this home
unfoldable pub access_of : PathValue → Data → Result AccessSpec Place
access_of home d = do
  _ ← constant_at (codes "access") d (codes "DATA_TYPE")
  principal ← principal_at d
  path ← path_at home d (codes "path")
  write ← write_at d
  Ok (record { principal = principal; path = path; write = write })

-- a rule's new permission
unfoldable pub permission_of : Data → Result Bool Place
permission_of d = constant_at (codes "access") d (codes "DATA_TYPE") >>= λ _. write_at d
