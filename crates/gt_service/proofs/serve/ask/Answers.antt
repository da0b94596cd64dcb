use Rattle.std.proofs.Common.{ℕ, ◌≡◌, true}
use Rattle.gt_causes.specs.Causes.{HasFailed}
use Rattle.gt_replies.specs.ReplyText.{reply_status}
use Rattle.gt_service.proofs.CallLemmas.{answer_status, from_answer, never_503, of_status}
use Rattle.gt_service.proofs.serve.ask.Goals as goal
use Rattle.gt_service.specs.Service.{is_answer_status, is_status}

-- the machine's answers have no status of a failed journal
pub returns-in-Ok-clause-cause : goal.returns-in-Ok-clause-cause
returns-in-Ok-clause-cause g c =
    let w = g.D.Disk.words in
    let n = reply_status c.in-Ok.reply in
    let status : is_answer_status n ≡ true =
    answer_status w c.args.desk.now c.answer.new.self c.args.identity.now c.args.command.now c.args.now c.in-Ok.reply c.in-Ok.ensures.call in
    of_status (λ (k : ℕ). k ≡ 503 → HasFailed w.faults c.args.desk.now.disk c.answer.new.self.disk) n _ c.write_reply.result c.write_reply.ensures
    (λ is. absurd (never_503 n is status))

pub returns-in-Ok-clause-status : goal.returns-in-Ok-clause-status
returns-in-Ok-clause-status g c =
    let w = g.D.Disk.words in
    let n = reply_status c.in-Ok.reply in
    of_status (λ (k : ℕ). is_status k ≡ true) n _ c.write_reply.result c.write_reply.ensures
    (from_answer n (answer_status w c.args.desk.now c.answer.new.self c.args.identity.now c.args.command.now c.args.now c.in-Ok.reply c.in-Ok.ensures.call))
