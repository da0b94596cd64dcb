use Rattle.gt_forest.proofs.MapLemmas.{puts_folder}
use Rattle.gt_forest.proofs.folders.take_folder.Goals as goal
use Rattle.std.proofs.Common.{None}

pub returns : goal.returns
returns c = puts_folder c.args.folders.now c.remove.new.self c.args.path.now None c.remove.ensures.updates
