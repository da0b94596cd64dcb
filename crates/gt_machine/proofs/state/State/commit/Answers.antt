-- The step of a planned change is the state's next: its effect, counted.
use Rattle.std.proofs.Common.{rules, ◌≡◌, ◌∙◌, ◌+◌, ◌<◌, ◌^◌, Some, ap, arith, sym}
use Rattle.std.specs.Option.{option_map}
use Rattle.gt_machine.specs.Change.{Held}
use Rattle.gt_machine.specs.Step.{counted_state}
use Rattle.gt_machine.proofs.StepLemmas.{effect_uncounted, step_effect}
use Rattle.gt_machine.proofs.state.State.commit.Goals as goal

pub apply-requires-clause-allowed : goal.apply-requires-clause-allowed
apply-requires-clause-allowed c = (step_effect c.requires.0 c.args.self.now.machine c.args.change.event c.requires.1.step).0

pub overflow_add-self : goal.overflow_add-self
overflow_add-self c =
    let m = c.args.self.now.machine in
    let event = c.args.change.event in
    let same : c.self.inside.events ≡ m.events =
    ap (λ (held : Held). held.machine.events) c.self.view_is ∙ effect_uncounted (m.events + 1) event.moment event.what m c.apply.new.self.machine c.apply.ensures in
    let few : c.self.inside.events + 1 < 2 ^ 64 = omega (arith, same, c.requires.1.countable) in
    search rules

pub returns : goal.returns
returns c setup planned =
    let m = c.args.self.now.machine in
    let event = c.args.change.event in
    let same = ap (λ (held : Held). held.machine) c.self.view_is in
    let uncounted : c.self.inside.events ≡ m.events =
    ap (λ (held : Held). held.machine.events) c.self.view_is ∙ effect_uncounted (m.events + 1) event.moment event.what m c.apply.new.self.machine c.apply.ensures in
    (step_effect setup m event planned.step).1
    ∙ ap (option_map (counted_state (m.events + 1) event.moment)) c.apply.ensures
    ∙ (λ i. Some (counted_state (sym uncounted i + 1) event.moment (sym same i)))
