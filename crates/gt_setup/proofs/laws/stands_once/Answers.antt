use Rattle.gt_setup.proofs.ApartLemmas.{read_stands_once}
use Rattle.gt_setup.proofs.laws.stands_once.Goals as goal

pub returns : goal.returns
returns c = read_stands_once
