use Rattle.gt_replies.proofs.SpelledLemmas.{refusal_spelled, submitted_spelled}
use Rattle.gt_replies.proofs.laws.documents_are_spelled.Goals as goal

pub returns-clause-refusal : goal.returns-clause-refusal
returns-clause-refusal c = refusal_spelled

pub returns-clause-submitted : goal.returns-clause-submitted
returns-clause-submitted c = submitted_spelled
