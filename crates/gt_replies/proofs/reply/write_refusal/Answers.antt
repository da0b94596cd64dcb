use Rattle.gt_replies.proofs.DocumentLemmas.{plain-refusal_document}
use Rattle.gt_replies.proofs.reply.write_refusal.Goals as goal

pub text_of-requires : goal.text_of-requires
text_of-requires c = rw c.in_ok-value.ensures (plain-refusal_document c.args.code c.args.place.now).no_float
