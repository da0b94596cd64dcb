use Rattle.gt_replies.proofs.DocumentLemmas.{plain-document_of, plain-refusal_document}
use Rattle.gt_replies.proofs.laws.members_ascend.Goals as goal

pub returns-clause-reply : goal.returns-clause-reply
returns-clause-reply c = λ setup reply. (plain-document_of setup reply).ordered

pub returns-clause-refusal : goal.returns-clause-refusal
returns-clause-refusal c = λ code place. (plain-refusal_document code place).ordered
