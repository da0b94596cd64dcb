use Rattle.gt_forest.proofs.ForestLemmas.{both_empty, fresh_tree}
use Rattle.gt_forest.proofs.mem.MemForest.new.Goals as goal

pub returns-clause-faithful : goal.returns-clause-faithful
returns-clause-faithful c = both_empty c.new.result c.args.corrupt.items c.new.ensures

pub returns-clause-empty : goal.returns-clause-empty
returns-clause-empty c = λ k inside. fresh_tree c.in_ok-fresh_trees.field-0.items c.args.count k c.in_ok-fresh_trees.ensures inside
