-- The document of a task: what all have, what a transfer or a deletion has besides, and the kept members that were given.
use Rattle.gt_replies.specs.Codes.{reason_name}
use Rattle.gt_replies.specs.Documents.{task_kind}
use Rattle.gt_replies.specs.Members.{Member, id_value, made_value, moment_value, object_of, or_null, whole}
use Rattle.gt_replies.specs.Words.{status_name, type_name}
use Rattle.gt_setup.specs.Setup.{Setup, id_of}
use Rattle.gt_types.specs.Kept.{flag_of, kept_members, name_of}
use Rattle.gt_types.specs.declared.code.Reason.{Reason}
use Rattle.gt_types.specs.declared.reply.Counters.{Counters}
use Rattle.gt_types.specs.declared.reply.TaskDocument.{TaskDocument}
use Rattle.gt_types.specs.declared.kept.Kept.{Kept}
use Rattle.gt_types.specs.declared.kept.KeptMember.{KeptMember}
use Rattle.gt_types.specs.declared.options.DeleteOptions.{DeleteOptions}
use Rattle.gt_types.specs.declared.options.TaskOptions.{TaskOptions}
use Rattle.gt_types.specs.declared.options.TaskOptions.TheVariants.{Delete as OfDelete, Transfer as OfTransfer}
use Rattle.gt_types.specs.declared.options.TransferOptions.{TransferOptions}
use Rattle.serde_json.specs.Data.{Data, boolean, null, string}
use Rattle.std.specs.List.{flat_map}
use Rattle.std.specs.Option.{option_map_or}
use Rattle.std.specs.Prelude.{Bool, List, Option, [], codes, false, true, ℕ, ◌++◌, ◌∷◌}

-- how many items the task has, and how many in each class
abbrev pub subtask_members : Counters → List Member
subtask_members counters =
    (codes "subtasks_total", whole counters.total)
    ∷ (codes "subtasks_pending", whole counters.pending)
    ∷ (codes "subtasks_retrying", whole counters.retrying)
    ∷ (codes "subtasks_succeeded", whole counters.succeeded)
    ∷ (codes "subtasks_expired", whole counters.expired)
    ∷ (codes "subtasks_canceled", whole counters.canceled)
    ∷ (codes "subtasks_failed", whole counters.failed)
    ∷ (codes "subtasks_skipped_errors", whole counters.skipped_errors) ∷ []

-- what the items did
abbrev pub work_members : Counters → List Member
work_members counters =
    (codes "files", whole counters.files)
    ∷ (codes "directories", whole counters.directories)
    ∷ (codes "files_skipped", whole counters.files_skipped)
    ∷ (codes "files_transferred", whole counters.files_transferred)
    ∷ (codes "bytes_transferred", whole counters.bytes_transferred)
    ∷ (codes "bytes_checksummed", whole counters.bytes_checksummed)
    ∷ (codes "faults", whole counters.faults) ∷ []

-- whether it is a deletion
abbrev pub is_deletion : TaskOptions → Bool
is_deletion (OfTransfer options) = false
is_deletion (OfDelete options) = true

-- where it reads: a deletion's collection stands here
abbrev pub source_value : Setup → TaskOptions → Data
source_value setup (OfTransfer options) = id_value (id_of setup options.source)
source_value setup (OfDelete options) = id_value (id_of setup options.collection)

-- where it writes: `null` for a deletion
abbrev pub destination_value : Setup → TaskOptions → Data
destination_value setup (OfTransfer options) = id_value (id_of setup options.destination)
destination_value setup (OfDelete options) = null

-- which task it is, whose, and where it works
abbrev pub identity_members : Setup → TaskDocument → List Member
identity_members setup task =
    (codes "DATA_TYPE", string (codes "task"))
    ∷ (codes "task_id", made_value setup.namespace task_kind task.number)
    ∷ (codes "type", string (type_name (is_deletion task.options)))
    ∷ (codes "owner_id", id_value task.owner)
    ∷ (codes "source_endpoint_id", source_value setup task.options)
    ∷ (codes "destination_endpoint_id", destination_value setup task.options) ∷ []

-- why it closed
abbrev pub reason_value : Option Reason → Data
reason_value reason = or_null (λ r. string (reason_name r)) reason

-- how it stands
abbrev pub state_members : TaskDocument → List Member
state_members task =
    (codes "status", string (status_name task.status))
    ∷ (codes "fatal_error", reason_value task.fatal_error)
    ∷ (codes "is_paused", boolean task.is_paused)
    ∷ (codes "label", or_null string task.label) ∷ []

-- its moments
abbrev pub time_members : TaskDocument → List Member
time_members task =
    (codes "deadline", or_null moment_value task.deadline)
    ∷ (codes "request_time", moment_value task.requested)
    ∷ (codes "completion_time", or_null moment_value task.completed) ∷ []

-- what a transfer has besides
abbrev pub transfer_members : TransferOptions → List Member
transfer_members options =
    (codes "delete_destination_extra", boolean options.extra)
    ∷ (codes "preserve_timestamp", boolean options.preserve)
    ∷ (codes "recursive_symlinks", string (codes "ignore"))
    ∷ (codes "skip_source_errors", boolean options.skip_source)
    ∷ (codes "sync_level", or_null whole options.level)
    ∷ (codes "verify_checksum", boolean options.verify) ∷ []

-- what a deletion has besides
abbrev pub deletion_members : DeleteOptions → List Member
deletion_members options =
    (codes "ignore_missing", boolean options.ignore_missing)
    ∷ (codes "recursive", boolean options.recursive) ∷ []

-- a member without effect, where it was given
abbrev pub kept_member : Kept → KeptMember → List Member
kept_member kept m = option_map_or (λ flag. (name_of m, boolean flag) ∷ []) (flag_of kept m) []

-- the members without effect that were given, as they were given
abbrev pub given_members : Kept → List Member
given_members kept = flat_map (kept_member kept) kept_members

-- the members that come from what was asked
abbrev pub options_members : TaskOptions → List Member
options_members (OfTransfer options) = transfer_members options ++ given_members options.kept
options_members (OfDelete options) = deletion_members options ++ given_members options.kept

-- the members of a task
abbrev pub task_members : Setup → TaskDocument → List Member
task_members setup task =
    identity_members setup task ++ state_members task ++ time_members task
    ++ subtask_members task.counters ++ work_members task.counters
    ++ options_members task.options

-- a task
unfoldable pub task_document : Setup → TaskDocument → Data
task_document setup task = object_of (task_members setup task)
