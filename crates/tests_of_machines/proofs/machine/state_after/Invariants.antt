use Rattle.gt_machine.specs.Run.{IsReached}
use Rattle.tests_of_machines.proofs.machine.state_after.Given as goal

abbrev pub invariant-loop-step : goal.invariant-loop-step
invariant-loop-step l = IsReached l.setup l.state.machine
