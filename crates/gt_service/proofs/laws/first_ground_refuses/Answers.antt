use Rattle.gt_service.proofs.GroundLemmas.{first_ground}
use Rattle.gt_service.proofs.laws.first_ground_refuses.Goals as goal

pub returns : goal.returns
returns c = first_ground c.first_cause_refuses.ensures
