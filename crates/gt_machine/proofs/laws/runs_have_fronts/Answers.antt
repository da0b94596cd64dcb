use Rattle.std.proofs.Common.{[], ◌∷◌}
use Rattle.gt_machine.specs.RunFacts.{one_step, run_split}
use Rattle.gt_machine.specs.MachineState.{empty_state}
use Rattle.gt_machine.proofs.laws.runs_have_fronts.Goals as goal

pub returns-clause-front : goal.returns-clause-front
returns-clause-front c setup m last front back is = run_split setup m last front back is

pub returns-clause-last : goal.returns-clause-last
returns-clause-last c setup history next event is =
    let at = run_split setup (empty_state setup.namespace) next history (event ∷ []) is in
    (at.0, at.1, one_step setup at.0 next event at.2)
