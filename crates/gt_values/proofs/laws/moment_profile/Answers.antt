use Rattle.gt_values.proofs.ProfileLemmas.{stands_writes, writes_stands}
use Rattle.gt_values.proofs.laws.moment_profile.Goals as goal

pub returns : goal.returns
returns c = λ text moment. (stands_writes text moment, writes_stands text moment)
