-- Statuses and texts, computed from the tables.
use Rattle.std.proofs.Common.{append_assoc, refl, true, false}
use Rattle.gt_types.specs.declared.reply.Reply.TheVariants.{Access, AccessCreated, AccessList, Done, Endpoint, Identifier, Pause, PauseCreated, PauseList, Refused, Skipped, Submitted, Successes, Task, Tasks}
use Rattle.gt_types.specs.declared.reply.ReplyCode.TheVariants.{AuthenticationFailed, BadRequest, EndpointNotFound, Exists, JournalFault, LimitReached, MethodNotAllowed, NotFound, OutOfMemory, PermissionDenied, RuleNotFound, TaskClosed, TaskNotFound, TooLarge}
use Rattle.serde_json.proofs.OnLiterals.{serde_json_on_literals}
use Rattle.gt_replies.specs.Members.{with_members}
use Rattle.gt_replies.specs.ReplyText.{document_of, refusal_text, reply_text}
use Rattle.gt_replies.specs.Spelled.{RefusalIsSpelled, StatusesHaveThreeDigits, SubmittedIsSpelled}

-- the statuses
pub statuses : StatusesHaveThreeDigits
statuses (Identifier n) = refl
statuses (Submitted is_delete true submission task) = refl
statuses (Submitted is_delete false submission task) = refl
statuses (Done code) = refl
statuses (AccessCreated rule) = refl
statuses (PauseCreated rule) = refl
statuses (Task task) = refl
statuses (Tasks rows page) = refl
statuses (Successes rows page) = refl
statuses (Skipped rows page) = refl
statuses (Access rule) = refl
statuses (AccessList rows collection) = refl
statuses (Pause rule) = refl
statuses (PauseList rows) = refl
statuses (Endpoint collection) = refl
statuses (Refused BadRequest) = refl
statuses (Refused AuthenticationFailed) = refl
statuses (Refused PermissionDenied) = refl
statuses (Refused NotFound) = refl
statuses (Refused EndpointNotFound) = refl
statuses (Refused TaskNotFound) = refl
statuses (Refused RuleNotFound) = refl
statuses (Refused MethodNotAllowed) = refl
statuses (Refused Exists) = refl
statuses (Refused TaskClosed) = refl
statuses (Refused LimitReached) = refl
statuses (Refused TooLarge) = refl
statuses (Refused JournalFault) = refl
statuses (Refused OutOfMemory) = refl

-- a refusal
pub refusal_spelled : RefusalIsSpelled
unfolding serde_json_on_literals refusal_text with_members
refusal_spelled code place = simp append_assoc

-- the answer to a submission
pub submitted_spelled : SubmittedIsSpelled
unfolding serde_json_on_literals reply_text document_of with_members
submitted_spelled setup is_delete is_new submission task = simp append_assoc
