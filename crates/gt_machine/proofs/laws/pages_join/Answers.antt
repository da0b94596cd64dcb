use Rattle.gt_machine.proofs.ListLemmas.{pages_join}
use Rattle.gt_machine.proofs.laws.pages_join.Goals as goal

pub returns : goal.returns
returns g c = pages_join
