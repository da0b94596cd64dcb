use Rattle.gt_values.proofs.MadeLemmas.{made_apart}
use Rattle.gt_values.proofs.laws.made_apart.Goals as goal

pub returns : goal.returns
returns c = made_apart
