use Rattle.gt_forest.proofs.MapLemmas.{puts_stage, staged}
use Rattle.gt_forest.proofs.stages.take_stage.Goals as goal
use Rattle.std.proofs.Common.{None, sym}

pub returns-clause-bytes : goal.returns-clause-bytes
returns-clause-bytes c = sym (staged c.args.stages.now c.args.key c.remove.result c.remove.ensures.value)

pub returns-clause-gone : goal.returns-clause-gone
returns-clause-gone c = puts_stage c.args.stages.now c.remove.new.self c.args.key None c.remove.ensures.updates
