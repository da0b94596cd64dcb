-- The documents that are written, but for that of a task: a line for each member.
use Rattle.gt_replies.specs.Codes.{item_code, refusal_code, refusal_message, result_code, result_message}
use Rattle.gt_replies.specs.Members.{array_of, folder_text, id_value, made_value, object_of, path_value, whole}
use Rattle.gt_replies.specs.Words.{permissions_text, principal_type}
use Rattle.gt_setup.specs.Setup.{Setup, home_of, id_of, name_of, owner_of}
use Rattle.gt_types.specs.declared.reply.AccessDocument.{AccessDocument}
use Rattle.gt_types.specs.declared.reply.Page.{Page}
use Rattle.gt_types.specs.declared.reply.PathPair.{PathPair}
use Rattle.gt_types.specs.declared.reply.ReplyCode.{ReplyCode}
use Rattle.gt_types.specs.declared.reply.ResultCode.{ResultCode}
use Rattle.gt_types.specs.declared.reply.SkippedDocument.{SkippedDocument}
use Rattle.gt_types.specs.declared.rule.Principal.{Principal}
use Rattle.gt_types.specs.declared.rule.Principal.TheVariants.{AllAuthenticated, Anonymous, Group, Identity}
use Rattle.gt_values.specs.IdText.{printed_id}
use Rattle.serde_json.specs.Data.{Data, string}
use Rattle.std.specs.Prelude.{Bool, List, [], codes, if◌then◌else◌, ℕ, ◌∷◌}

-- the kind of an identifier that is issued
abbrev pub submission_kind : ℕ
submission_kind = 1

-- the kind of a task's identifier
abbrev pub task_kind : ℕ
task_kind = 2

-- the kind of an access rule's identifier
abbrev pub access_kind : ℕ
access_kind = 3

-- an identifier that was issued
abbrev pub identifier_document : ℕ → ℕ → Data
identifier_document namespace number = object_of (
    (codes "DATA_TYPE", string (codes "submission_id"))
    ∷ (codes "value", made_value namespace submission_kind number) ∷ [])

-- the type of the document that answers a submission
abbrev pub submitted_type : Bool → List ℕ
submitted_type is_delete = if is_delete then codes "delete_result" else codes "transfer_result"

-- whether the submission is new
abbrev pub submitted_code : Bool → List ℕ
submitted_code is_new = if is_new then codes "Accepted" else codes "Duplicate"

-- the same in a sentence
abbrev pub submitted_message : Bool → List ℕ
submitted_message is_new =
    if is_new then codes "The task was accepted." else codes "This submission was accepted before."

-- the task of a submission
abbrev pub submitted_document : ℕ → Bool → Bool → List ℕ → ℕ → Data
submitted_document namespace is_delete is_new submission task = object_of (
    (codes "DATA_TYPE", string (submitted_type is_delete))
    ∷ (codes "code", string (submitted_code is_new))
    ∷ (codes "message", string (submitted_message is_new))
    ∷ (codes "submission_id", id_value submission)
    ∷ (codes "task_id", made_value namespace task_kind task) ∷ [])

-- what a change came to
abbrev pub result_document : ResultCode → Data
result_document code = object_of (
    (codes "DATA_TYPE", string (codes "result"))
    ∷ (codes "code", string (result_code code))
    ∷ (codes "message", string (result_message code)) ∷ [])

-- an access rule that was made
abbrev pub access_created_document : ℕ → ℕ → Data
access_created_document namespace rule = object_of (
    (codes "DATA_TYPE", string (codes "access_create_result"))
    ∷ (codes "access_id", made_value namespace access_kind rule)
    ∷ (codes "code", string (codes "Created"))
    ∷ (codes "message", string (codes "The rule was created.")) ∷ [])

-- a list: the array of its rows, its type, what was asked of it, and the number of all rows
abbrev pub page_document : List ℕ → Data → Page → Data
page_document type rows page = object_of (
    (codes "DATA", rows)
    ∷ (codes "DATA_TYPE", string type)
    ∷ (codes "limit", whole page.limit)
    ∷ (codes "offset", whole page.offset)
    ∷ (codes "total", whole page.total) ∷ [])

-- the paths of a file that was copied
abbrev pub success_document : PathPair → Data
success_document pair = object_of (
    (codes "DATA_TYPE", string (codes "successful_transfer"))
    ∷ (codes "destination_path", path_value pair.destination)
    ∷ (codes "source_path", path_value pair.source) ∷ [])

-- an item that was skipped, and why
abbrev pub skipped_document : SkippedDocument → Data
skipped_document row = object_of (
    (codes "DATA_TYPE", string (codes "skipped_error"))
    ∷ (codes "destination_path", path_value row.destination)
    ∷ (codes "error_code", string (item_code row.code))
    ∷ (codes "source_path", path_value row.source) ∷ [])

-- the identifier of a principal that has one, and otherwise no text
abbrev pub principal_text : Principal → List ℕ
principal_text (Identity id) = printed_id id
principal_text (Group id) = printed_id id
principal_text AllAuthenticated = []
principal_text Anonymous = []

-- an access rule
abbrev pub access_document : ℕ → AccessDocument → Data
access_document namespace rule = object_of (
    (codes "DATA_TYPE", string (codes "access"))
    ∷ (codes "id", made_value namespace access_kind rule.number)
    ∷ (codes "path", string (folder_text rule.spec.path))
    ∷ (codes "permissions", string (permissions_text rule.spec.write))
    ∷ (codes "principal", string (principal_text rule.spec.principal))
    ∷ (codes "principal_type", string (principal_type rule.spec.principal)) ∷ [])

-- the access rules of a collection
abbrev pub access_list_document : Setup → List AccessDocument → ℕ → Data
access_list_document setup rows collection = object_of (
    (codes "DATA", array_of (access_document setup.namespace) rows)
    ∷ (codes "DATA_TYPE", string (codes "access_list"))
    ∷ (codes "endpoint", id_value (id_of setup collection)) ∷ [])

-- a collection
abbrev pub endpoint_document : Setup → ℕ → Data
endpoint_document setup collection = object_of (
    (codes "DATA_TYPE", string (codes "endpoint"))
    ∷ (codes "default_directory", string (folder_text (home_of setup collection)))
    ∷ (codes "display_name", string (name_of setup collection))
    ∷ (codes "id", id_value (id_of setup collection))
    ∷ (codes "owner_id", id_value (owner_of setup collection)) ∷ [])

-- a refusal
abbrev pub refusal_document : ReplyCode → List ℕ → Data
refusal_document code place = object_of (
    (codes "DATA_TYPE", string (codes "error"))
    ∷ (codes "code", string (refusal_code code))
    ∷ (codes "message", string (refusal_message code place)) ∷ [])
