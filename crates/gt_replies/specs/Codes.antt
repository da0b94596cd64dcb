-- The codes and messages of results and refusals, and why a task closed.
use Rattle.gt_types.specs.declared.code.Code.{Code}
use Rattle.gt_types.specs.declared.code.Code.TheVariants.{FileNotFound, FolderTooLarge, ItemLimit, NotEmpty, PathTooLong, TreeFault, VerifyMismatch, WrongKind}
use Rattle.gt_types.specs.declared.code.Code.TheVariants as item
use Rattle.gt_types.specs.declared.code.Reason.{Reason}
use Rattle.gt_types.specs.declared.code.Reason.TheVariants as closing
use Rattle.gt_types.specs.declared.reply.ReplyCode.{ReplyCode}
use Rattle.gt_types.specs.declared.reply.ReplyCode.TheVariants.{AuthenticationFailed, BadRequest, EndpointNotFound, Exists, JournalFault, LimitReached, MethodNotAllowed, NotFound, OutOfMemory, PermissionDenied, RuleNotFound, TaskClosed, TaskNotFound, TooLarge}
use Rattle.gt_types.specs.declared.reply.ResultCode.{ResultCode}
use Rattle.gt_types.specs.declared.reply.ResultCode.TheVariants.{CancelAccepted, Canceled, Deleted, TaskComplete, Updated}
use Rattle.std.specs.Prelude.{List, codes, ℕ, ◌++◌}

-- the code of a refusal
abbrev pub refusal_code : ReplyCode → List ℕ
refusal_code BadRequest = codes "ClientError.BadRequest"
refusal_code AuthenticationFailed = codes "AuthenticationFailed"
refusal_code PermissionDenied = codes "PermissionDenied"
refusal_code NotFound = codes "NotFound"
refusal_code EndpointNotFound = codes "EndpointNotFound"
refusal_code TaskNotFound = codes "TaskNotFound"
refusal_code RuleNotFound = codes "RuleNotFound"
refusal_code MethodNotAllowed = codes "MethodNotAllowed"
refusal_code Exists = codes "Exists"
refusal_code TaskClosed = codes "TaskClosed"
refusal_code LimitReached = codes "LimitReached"
refusal_code TooLarge = codes "TooLarge"
refusal_code JournalFault = codes "JournalFault"
refusal_code OutOfMemory = codes "OutOfMemory"

-- its message, which names the place of what is bad in a request
abbrev pub refusal_message : ReplyCode → List ℕ → List ℕ
refusal_message BadRequest place = codes "Bad document at " ++ place ++ codes "."
refusal_message AuthenticationFailed place = codes "No valid token."
refusal_message PermissionDenied place = codes "Only the owner may do this."
refusal_message NotFound place = codes "No such resource."
refusal_message EndpointNotFound place = codes "No such collection."
refusal_message TaskNotFound place = codes "No such task."
refusal_message RuleNotFound place = codes "No such rule."
refusal_message MethodNotAllowed place = codes "No such method here."
refusal_message Exists place = codes "Such a rule exists."
refusal_message TaskClosed place = codes "The task is closed."
refusal_message LimitReached place = codes "The table is full."
refusal_message TooLarge place = codes "The body is too large."
refusal_message JournalFault place = codes "The journal failed."
refusal_message OutOfMemory place = codes "No memory."

-- the code of a change
abbrev pub result_code : ResultCode → List ℕ
result_code Canceled = codes "Canceled"
result_code CancelAccepted = codes "CancelAccepted"
result_code TaskComplete = codes "TaskComplete"
result_code Updated = codes "Updated"
result_code Deleted = codes "Deleted"

-- its message
abbrev pub result_message : ResultCode → List ℕ
result_message Canceled = codes "The task was canceled."
result_message CancelAccepted = codes "The cancellation was accepted."
result_message TaskComplete = codes "The task is complete already."
result_message Updated = codes "The change was made."
result_message Deleted = codes "The rule was deleted."

-- the name of an item's code
abbrev pub item_code : Code → List ℕ
item_code FileNotFound = codes "FILE_NOT_FOUND"
item_code item.PermissionDenied = codes "PERMISSION_DENIED"
item_code WrongKind = codes "WRONG_KIND"
item_code NotEmpty = codes "NOT_EMPTY"
item_code VerifyMismatch = codes "VERIFY_MISMATCH"
item_code TreeFault = codes "TREE_FAULT"
item_code FolderTooLarge = codes "FOLDER_TOO_LARGE"
item_code ItemLimit = codes "ITEM_LIMIT"
item_code PathTooLong = codes "PATH_TOO_LONG"

-- why a task closed
abbrev pub reason_name : Reason → List ℕ
reason_name closing.Canceled = codes "CANCELED"
reason_name closing.Deadline = codes "DEADLINE"
reason_name (closing.Code code) = item_code code
