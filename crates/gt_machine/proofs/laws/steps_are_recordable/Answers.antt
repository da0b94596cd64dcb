use Rattle.gt_machine.proofs.ApartSteps.{has_form}
use Rattle.gt_machine.proofs.laws.steps_are_recordable.Goals as goal

pub returns : goal.returns
returns c setup m next event is = has_form setup m next event is
