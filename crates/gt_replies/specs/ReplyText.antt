-- The status and the bytes of each reply: its document as compact JSON.
use Rattle.gt_replies.specs.Documents.{access_created_document, access_document, access_list_document, endpoint_document, identifier_document, page_document, refusal_document, result_document, skipped_document, submitted_document, success_document}
use Rattle.gt_replies.specs.Members.{array_of}
use Rattle.gt_replies.specs.TaskDocument.{task_document}
use Rattle.gt_setup.specs.Setup.{Setup}
use Rattle.gt_types.specs.declared.reply.Reply.{Reply}
use Rattle.gt_types.specs.declared.reply.Reply.TheVariants.{Access, AccessCreated, AccessList, Done, Endpoint, Identifier, Pause, PauseCreated, PauseList, Refused, Skipped, Submitted, Successes, Task, Tasks}
use Rattle.gt_types.specs.declared.reply.ReplyCode.{ReplyCode}
use Rattle.gt_types.specs.declared.reply.ReplyCode.TheVariants.{AuthenticationFailed, BadRequest, EndpointNotFound, Exists, JournalFault, LimitReached, MethodNotAllowed, NotFound, OutOfMemory, PermissionDenied, RuleNotFound, TaskClosed, TaskNotFound, TooLarge}
use Rattle.serde_json.specs.Data.{Data, null}
use Rattle.serde_json.specs.Written.{compact_text}
use Rattle.std.specs.Prelude.{List, [], codes, if◌then◌else◌, ℕ}

-- the status of a refusal
abbrev pub refusal_status : ReplyCode → ℕ
refusal_status BadRequest = 400
refusal_status AuthenticationFailed = 401
refusal_status PermissionDenied = 403
refusal_status NotFound = 404
refusal_status EndpointNotFound = 404
refusal_status TaskNotFound = 404
refusal_status RuleNotFound = 404
refusal_status MethodNotAllowed = 405
refusal_status Exists = 409
refusal_status TaskClosed = 409
refusal_status LimitReached = 409
refusal_status TooLarge = 413
refusal_status JournalFault = 503
refusal_status OutOfMemory = 507

-- the bytes of a refusal
unfoldable pub refusal_text : ReplyCode → List ℕ → List ℕ
refusal_text code place = compact_text (refusal_document code place)

-- the status of a reply
abbrev pub reply_status : Reply → ℕ
reply_status (Identifier number) = 200
reply_status (Submitted is_delete is_new submission task) = if is_new then 202 else 200
reply_status (Done code) = 200
reply_status (AccessCreated rule) = 201
reply_status (PauseCreated rule) = 201
reply_status (Task task) = 200
reply_status (Tasks rows page) = 200
reply_status (Successes rows page) = 200
reply_status (Skipped rows page) = 200
reply_status (Access rule) = 200
reply_status (AccessList rows collection) = 200
reply_status (Pause rule) = 200
reply_status (PauseList rows) = 200
reply_status (Endpoint collection) = 200
reply_status (Refused code) = refusal_status code

-- the document of a reply; pause rules have none yet
unfoldable pub document_of : Setup → Reply → Data
document_of setup (Identifier number) = identifier_document setup.namespace number
document_of setup (Submitted is_delete is_new submission task) =
    submitted_document setup.namespace is_delete is_new submission task
document_of setup (Done code) = result_document code
document_of setup (AccessCreated rule) = access_created_document setup.namespace rule
document_of setup (PauseCreated rule) = null
document_of setup (Task task) = task_document setup task
document_of setup (Tasks rows page) = page_document (codes "task_list") (array_of (task_document setup) rows) page
document_of setup (Successes rows page) =
    page_document (codes "successful_transfers") (array_of success_document rows) page
document_of setup (Skipped rows page) = page_document (codes "skipped_errors") (array_of skipped_document rows) page
document_of setup (Access rule) = access_document setup.namespace rule
document_of setup (AccessList rows collection) = access_list_document setup rows collection
document_of setup (Pause rule) = null
document_of setup (PauseList rows) = null
document_of setup (Endpoint collection) = endpoint_document setup collection
document_of setup (Refused code) = refusal_document code []

-- the bytes of a reply
unfoldable pub reply_text : Setup → Reply → List ℕ
reply_text setup reply = compact_text (document_of setup reply)
