use Rattle.gt_replies.proofs.SpelledLemmas.{statuses}
use Rattle.gt_replies.proofs.laws.statuses_have_three_digits.Goals as goal

pub returns : goal.returns
returns c = statuses
