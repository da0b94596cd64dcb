use Rattle.gt_machine.specs.Run.{IsReached}
use Rattle.tests_of_machines.proofs.answers.repeated.Given as goal

-- events led to the state
abbrev pub invariant-loop : goal.invariant-loop
invariant-loop l = IsReached l.setup l.state.machine
