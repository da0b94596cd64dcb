-- The documents have no float, so that their texts are exact, and their members stand in order.
use Rattle.std.proofs.Common.{◌≡◌, ◌∷◌, [], ℕ, List, Option, Some, None, Bool, true, false, refl}
use Rattle.gt_setup.specs.Setup.{Setup}
use Rattle.gt_types.specs.declared.code.Reason.{Reason}
use Rattle.gt_types.specs.declared.reply.AccessDocument.{AccessDocument}
use Rattle.gt_types.specs.declared.reply.Counters.{Counters}
use Rattle.gt_types.specs.declared.reply.Page.{Page}
use Rattle.gt_types.specs.declared.reply.PathPair.{PathPair}
use Rattle.gt_types.specs.declared.reply.Reply.{Reply}
use Rattle.gt_types.specs.declared.reply.Reply.TheVariants.{Access, AccessCreated, AccessList, Done, Endpoint, Identifier, Pause, PauseCreated, PauseList, Refused, Skipped, Submitted, Successes, Task, Tasks}
use Rattle.gt_types.specs.declared.reply.ReplyCode.{ReplyCode}
use Rattle.gt_types.specs.declared.reply.SkippedDocument.{SkippedDocument}
use Rattle.gt_types.specs.declared.reply.TaskDocument.{TaskDocument}
use Rattle.gt_types.specs.Kept.{flag_of, kept_members, name_of}
use Rattle.gt_types.specs.declared.kept.Kept.{Kept}
use Rattle.gt_types.specs.declared.kept.KeptMember.{KeptMember}
use Rattle.gt_types.specs.declared.options.DeleteOptions.{DeleteOptions}
use Rattle.gt_types.specs.declared.options.TaskOptions.{TaskOptions}
use Rattle.gt_types.specs.declared.options.TaskOptions.TheVariants.{Delete as OfDelete, Transfer as OfTransfer}
use Rattle.gt_types.specs.declared.options.TransferOptions.{TransferOptions}
use Rattle.std.specs.List.{flat_map}
use Rattle.std.specs.Option.{option_map_or}
use Rattle.std.proofs.lemmas.List.Concat.{flat_map-cons}
use Rattle.serde_json.specs.Data.{Data, boolean, string}
use Rattle.serde_json.specs.Written.{has_float}
use Rattle.gt_replies.specs.Documents.{access_document, access_list_document, page_document, refusal_document, skipped_document, success_document}
use Rattle.gt_replies.specs.Members.{moment_value, or_null, whole}
use Rattle.gt_replies.specs.Order.{is_ordered}
use Rattle.gt_replies.specs.ReplyText.{document_of}
use Rattle.gt_replies.specs.TaskDocument.{deletion_members, destination_value, given_members, identity_members, kept_member, options_members, reason_value, source_value, state_members, subtask_members, task_document, task_members, time_members, transfer_members, work_members}
use Rattle.gt_replies.proofs.TableLemmas.{IsPlain, IsPlainTable, both, line, plain-array_of, plain-object_of}

-- a value whose parts compute
computed : {value : Data} → has_float value ≡ false → is_ordered value ≡ true → IsPlain value
computed p q = record { no_float = p; ordered = q }

plain-or_null : {X : Type 0} (written : X → Data) → ((x : X) → IsPlain (written x)) → (o : Option X) → IsPlain (or_null written o)
plain-or_null written plain None = computed refl refl
plain-or_null written plain (Some x) = plain x

plain-reason_value : (reason : Option Reason) → IsPlain (reason_value reason)
plain-reason_value None = computed refl refl
plain-reason_value (Some reason) = computed refl refl

plain-source : (setup : Setup) (options : TaskOptions) → IsPlain (source_value setup options)
plain-source setup (OfTransfer options) = computed refl refl
plain-source setup (OfDelete options) = computed refl refl

plain-destination : (setup : Setup) (options : TaskOptions) → IsPlain (destination_value setup options)
plain-destination setup (OfTransfer options) = computed refl refl
plain-destination setup (OfDelete options) = computed refl refl

plain-identity : (setup : Setup) (task : TaskDocument) → IsPlainTable (identity_members setup task)
plain-identity setup task =
    let text : (s : List ℕ) → IsPlain (string s) = λ s. computed refl refl in
    line (text _) (line (text _) (line (text _) (line (text _) (line (plain-source setup task.options)
    (line (plain-destination setup task.options) (record { plain = refl }))))))

plain-state : (task : TaskDocument) → IsPlainTable (state_members task)
plain-state task =
    line (computed refl refl) (line (plain-reason_value task.fatal_error) (line (computed refl refl)
    (line (plain-or_null string (λ s. computed refl refl) task.label) (record { plain = refl }))))

plain-time : (task : TaskDocument) → IsPlainTable (time_members task)
plain-time task =
    line (plain-or_null moment_value (λ m. computed refl refl) task.deadline) (line (computed refl refl)
    (line (plain-or_null moment_value (λ m. computed refl refl) task.completed) (record { plain = refl })))

given : (flag : Option Bool) (name : List ℕ) → IsPlainTable (option_map_or (λ flag. (name, boolean flag) ∷ []) flag [])
given None name = record { plain = refl }
given (Some flag) name = record { plain = refl }

plain-kept_member : (kept : Kept) (m : KeptMember) → IsPlainTable (kept_member kept m)
plain-kept_member kept m = given (flag_of kept m) (name_of m)

each_plain : (kept : Kept) (ms : List KeptMember) → IsPlainTable (flat_map (kept_member kept) ms)
each_plain kept [] = record { plain = refl }
each_plain kept (m ∷ ms) = rw flat_map-cons (both (plain-kept_member kept m) (each_plain kept ms))

plain-given : (kept : Kept) → IsPlainTable (given_members kept)
plain-given kept = each_plain kept kept_members

plain-transfer : (options : TransferOptions) → IsPlainTable (transfer_members options)
plain-transfer options =
    line (computed refl refl) (line (computed refl refl) (line (computed refl refl) (line (computed refl refl)
    (line (plain-or_null whole (λ n. computed refl refl) options.level) (record { plain = refl })))))

plain-deletion : (options : DeleteOptions) → IsPlainTable (deletion_members options)
plain-deletion options = record { plain = refl }

plain-options : (options : TaskOptions) → IsPlainTable (options_members options)
plain-options (OfTransfer options) = both {a = transfer_members options} {b = given_members options.kept} (plain-transfer options) (plain-given options.kept)
plain-options (OfDelete options) = both {a = deletion_members options} {b = given_members options.kept} (plain-deletion options) (plain-given options.kept)

plain-subtasks : (counters : Counters) → IsPlainTable (subtask_members counters)
plain-subtasks counters = record { plain = refl }

plain-work : (counters : Counters) → IsPlainTable (work_members counters)
plain-work counters = record { plain = refl }

plain-task_members : (setup : Setup) (task : TaskDocument) → IsPlainTable (task_members setup task)
plain-task_members setup task =
    both (both (both (both (both (plain-identity setup task) (plain-state task)) (plain-time task))
    (plain-subtasks task.counters)) (plain-work task.counters)) (plain-options task.options)

plain-task : (setup : Setup) (task : TaskDocument) → IsPlain (task_document setup task)
unfolding task_document
plain-task setup task = plain-object_of (plain-task_members setup task)

plain-page : (type : List ℕ) (rows : Data) (page : Page) → IsPlain rows → IsPlain (page_document type rows page)
plain-page type rows page p = plain-object_of (line p (record { plain = refl }))

plain-success : (pair : PathPair) → IsPlain (success_document pair)
plain-success pair = plain-object_of (record { plain = refl })

plain-skipped : (row : SkippedDocument) → IsPlain (skipped_document row)
plain-skipped row = plain-object_of (record { plain = refl })

plain-access : (namespace : ℕ) (rule : AccessDocument) → IsPlain (access_document namespace rule)
plain-access namespace rule = plain-object_of (record { plain = refl })

plain-access_list : (setup : Setup) (rows : List AccessDocument) (collection : ℕ) → IsPlain (access_list_document setup rows collection)
plain-access_list setup rows collection =
    plain-object_of (line (plain-array_of (access_document setup.namespace) (plain-access setup.namespace) rows) (record { plain = refl }))

-- the document of a refusal
pub plain-refusal_document : (code : ReplyCode) (place : List ℕ) → IsPlain (refusal_document code place)
plain-refusal_document code place = plain-object_of (record { plain = refl })

-- the document of a reply
pub plain-document_of : (setup : Setup) (reply : Reply) → IsPlain (document_of setup reply)
unfolding document_of
plain-document_of setup (Identifier n) = plain-object_of (record { plain = refl })
plain-document_of setup (Submitted is_delete is_new submission task) = plain-object_of (record { plain = refl })
plain-document_of setup (Done code) = plain-object_of (record { plain = refl })
plain-document_of setup (AccessCreated rule) = plain-object_of (record { plain = refl })
plain-document_of setup (PauseCreated rule) = computed refl refl
plain-document_of setup (Task task) = plain-task setup task
plain-document_of setup (Tasks rows page) = plain-page _ _ page (plain-array_of (task_document setup) (plain-task setup) rows)
plain-document_of setup (Successes rows page) = plain-page _ _ page (plain-array_of success_document plain-success rows)
plain-document_of setup (Skipped rows page) = plain-page _ _ page (plain-array_of skipped_document plain-skipped rows)
plain-document_of setup (Access rule) = plain-access setup.namespace rule
plain-document_of setup (AccessList rows collection) = plain-access_list setup rows collection
plain-document_of setup (Pause rule) = computed refl refl
plain-document_of setup (PauseList rows) = computed refl refl
plain-document_of setup (Endpoint collection) = plain-object_of (record { plain = refl })
plain-document_of setup (Refused code) = plain-refusal_document code []
