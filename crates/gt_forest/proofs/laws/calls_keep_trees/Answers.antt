use Rattle.gt_forest.proofs.KeepLemmas.{calls_keep, empty_is_tree}
use Rattle.gt_forest.proofs.laws.calls_keep_trees.Goals as goal

pub returns-clause-kept : goal.returns-clause-kept
returns-clause-kept c = calls_keep

pub returns-clause-empty : goal.returns-clause-empty
returns-clause-empty c = empty_is_tree
