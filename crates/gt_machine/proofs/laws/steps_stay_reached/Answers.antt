use Rattle.gt_machine.specs.RunFacts.{reached_more}
use Rattle.gt_machine.proofs.laws.steps_stay_reached.Goals as goal

pub returns : goal.returns
returns c setup m next event reached step = reached_more setup m next event reached step
