use Rattle.gt_machine.specs.Run.{IsReached}
use Rattle.tests_of_machines.proofs.answers.right.Given as goal

-- events led to the state
abbrev pub invariant-loop-row : goal.invariant-loop-row
invariant-loop-row l = IsReached l.setup l.state.machine
