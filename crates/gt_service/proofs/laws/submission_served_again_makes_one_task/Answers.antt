use Rattle.std.proofs.Common.{subst}
use Rattle.gt_desk.specs.DeskCall.{DeskCall}
use Rattle.gt_machine.specs.Answer.{answer_of}
use Rattle.gt_service.proofs.laws.submission_served_again_makes_one_task.Goals as goal
use Rattle.gt_types.specs.declared.command.Command.TheVariants.{SubmitTransfer as AskTransfer}

pub returns : goal.returns
returns g c identity submission spec now old new response is_delete is_new identifier task runs asked is =
    let call = subst (λ answer. DeskCall old.setup (λ m. answer_of old.setup m identity (AskTransfer submission spec) now) old.ledger answer asked.call.moved new.ledger) is asked.call.call in
    c.submission_sent_again_makes_one_task.ensures old.setup identity submission spec now old.ledger new.ledger asked.call.moved is_delete is_new identifier task runs call
