use Rattle.gt_machine.specs.RunFacts.{run_join, run_more}
use Rattle.gt_machine.specs.MachineState.{empty_state}
use Rattle.gt_machine.proofs.laws.runs_go_on.Goals as goal

pub returns-clause-step : goal.returns-clause-step
returns-clause-step c setup history m next event is step = run_more setup (empty_state setup.namespace) m next history event is step

pub returns-clause-run : goal.returns-clause-run
returns-clause-run c setup m middle last front back is rest = run_join setup m middle last front back is rest
