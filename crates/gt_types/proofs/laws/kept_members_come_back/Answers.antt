use Rattle.gt_types.proofs.KeptLemmas.{comes_back}
use Rattle.gt_types.proofs.laws.kept_members_come_back.Goals as goal

pub returns : goal.returns
returns c = comes_back
