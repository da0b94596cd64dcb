use Rattle.gt_replies.proofs.DocumentLemmas.{plain-document_of}
use Rattle.gt_replies.proofs.reply.write_reply.Goals as goal

pub text_of-requires : goal.text_of-requires
text_of-requires c = rw c.in_ok-value.ensures (plain-document_of c.args.setup.now c.args.reply.now).no_float
