-- What the tables come to: the digits of a status, and two documents letter by letter.
use Rattle.gt_replies.specs.Codes.{refusal_code, refusal_message}
use Rattle.gt_replies.specs.Documents.{submitted_code, submitted_message, submitted_type, task_kind}
use Rattle.gt_replies.specs.ReplyText.{refusal_text, reply_status, reply_text}
use Rattle.gt_setup.specs.Setup.{Setup}
use Rattle.gt_types.specs.declared.reply.Reply.{Reply}
use Rattle.gt_types.specs.declared.reply.Reply.TheVariants.{Submitted}
use Rattle.gt_types.specs.declared.reply.ReplyCode.{ReplyCode}
use Rattle.gt_values.specs.IdText.{printed_id}
use Rattle.gt_values.specs.Ident.{made_id}
use Rattle.serde_json.specs.Data.{string}
use Rattle.serde_json.specs.Written.{compact_text}
use Rattle.std.specs.Prelude.{Bool, IsTrue, List, codes, nat_le, ℕ, ◌&&◌, ◌++◌, ◌≡◌}

-- a number of three digits
abbrev pub has_three_digits : ℕ → Bool
has_three_digits n = nat_le 100 n && nat_le n 999

-- each status has three digits
abbrev pub StatusesHaveThreeDigits : Type 0
StatusesHaveThreeDigits = (reply : Reply) → IsTrue (has_three_digits (reply_status reply))

-- a text in quotes, with its escapes
abbrev pub in_quotes : List ℕ → List ℕ
in_quotes text = compact_text (string text)

-- a refusal, letter by letter
abbrev pub RefusalIsSpelled : Type 0
RefusalIsSpelled = (code : ReplyCode) (place : List ℕ) → refusal_text code place
    ≡ codes "{\"DATA_TYPE\":\"error\",\"code\":" ++ in_quotes (refusal_code code)
    ++ codes ",\"message\":" ++ in_quotes (refusal_message code place) ++ codes "}"

-- the answer to a submission, letter by letter
abbrev pub SubmittedIsSpelled : Type 0
SubmittedIsSpelled = (setup : Setup) (is_delete is_new : Bool) (submission : List ℕ) (task : ℕ)
    → reply_text setup (Submitted is_delete is_new submission task)
    ≡ codes "{\"DATA_TYPE\":" ++ in_quotes (submitted_type is_delete)
    ++ codes ",\"code\":" ++ in_quotes (submitted_code is_new)
    ++ codes ",\"message\":" ++ in_quotes (submitted_message is_new)
    ++ codes ",\"submission_id\":" ++ in_quotes (printed_id submission)
    ++ codes ",\"task_id\":" ++ in_quotes (printed_id (made_id setup.namespace task_kind task)) ++ codes "}"
