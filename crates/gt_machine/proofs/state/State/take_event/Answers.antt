-- The change that was planned makes the step of the event on the state from before.
use Rattle.std.proofs.Common.{◌≡◌, Some, ap, arith, sym, ◌∙◌}
use Rattle.gt_machine.specs.MachineState.{MachineState}
use Rattle.gt_machine.specs.Step.{step_of}
use Rattle.gt_machine.proofs.Runs.{step_is}
use Rattle.gt_machine.specs.RunFacts.{reached_more}
use Rattle.gt_machine.proofs.state.State.take_event.Goals as goal

pub returns-clause-reached : goal.returns-clause-reached
returns-clause-reached c =
    let said = c.in_ok-change.ensures in
    let setup = c.args.setup.now in
    let step : step_of setup c.args.self.now.machine c.args.event ≡ Some c.commit.new.self.machine =
    (λ i. step_of setup (sym said.unchanged i) (sym said.planned.0 i)) ∙ c.commit.ensures setup said.planned.1 in
    reached_more setup c.args.self.now.machine c.commit.new.self.machine c.args.event c.requires.reached step

pub returns-clause-counted : goal.returns-clause-counted
returns-clause-counted c =
    let said = c.in_ok-change.ensures in
    let setup = c.args.setup.now in
    let step : step_of setup c.args.self.now.machine c.args.event ≡ Some c.commit.new.self.machine =
    (λ i. step_of setup (sym said.unchanged i) (sym said.planned.0 i)) ∙ c.commit.ensures setup said.planned.1 in
    let more = ap (λ (m : MachineState). m.events) (step_is setup c.args.self.now.machine c.commit.new.self.machine c.args.event step).result in
    omega (arith, more)
