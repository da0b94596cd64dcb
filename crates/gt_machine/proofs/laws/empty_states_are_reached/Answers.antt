use Rattle.std.proofs.Common.{[], refl}
use Rattle.gt_machine.proofs.laws.empty_states_are_reached.Goals as goal

pub returns : goal.returns
returns c setup = ([], refl)
