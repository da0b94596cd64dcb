use Rattle.gt_forest.proofs.DecidedLemmas.{calls_one}
use Rattle.gt_forest.proofs.laws.trees_decide_answers.Goals as goal

pub returns : goal.returns
returns c = calls_one
