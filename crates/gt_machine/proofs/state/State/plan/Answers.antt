use Rattle.std.proofs.Common.{◌≡◌, ◌+◌, sym, ◌∙◌, true}
use Rattle.std.specs.Prelude.{is_some}
use Rattle.gt_machine.specs.Step.{effect_of, may_come}
use Rattle.gt_machine.proofs.StepLemmas.{step_allowed, step_not_none}
use Rattle.gt_machine.proofs.state.State.plan.Goals as goal

pub plan_step-requires-clause-step : goal.plan_step-requires-clause-step
plan_step-requires-clause-step c =
    let m = c.args.self.now.machine in
    let may : may_come c.args.setup.now m c.args.event ≡ true = sym c.may_come.ensures ∙ c.if-not-may_come.false in
    let allowed : is_some (effect_of (m.events + 1) c.args.event.moment c.args.event.what m) ≡ true =
    sym (c.allows.ensures (m.events + 1) c.args.event.moment) ∙ c.if-not-allows.false in
    (c.args.setup.now, step_allowed c.args.setup.now m c.args.event may allowed)

pub returns-in-Ok-clause-no_step : goal.returns-in-Ok-clause-no_step
returns-in-Ok-clause-no_step c =
    let m = c.args.self.now.machine in
    let may : may_come c.args.setup.now m c.args.event ≡ true = sym c.may_come.ensures ∙ c.if-not-may_come.false in
    let allowed : is_some (effect_of (m.events + 1) c.args.event.moment c.args.event.what m) ≡ true =
    sym (c.allows.ensures (m.events + 1) c.args.event.moment) ∙ c.if-not-allows.false in
    (λ refused. absurd (cc), λ none. absurd (step_not_none c.args.setup.now m c.args.event may allowed none))

pub returns-in-Err-clause-no_step : goal.returns-in-Err-clause-no_step
returns-in-Err-clause-no_step c =
    let m = c.args.self.now.machine in
    let may : may_come c.args.setup.now m c.args.event ≡ true = sym c.may_come.ensures ∙ c.if-not-may_come.false in
    let allowed : is_some (effect_of (m.events + 1) c.args.event.moment c.args.event.what m) ≡ true =
    sym (c.allows.ensures (m.events + 1) c.args.event.moment) ∙ c.if-not-allows.false in
    (λ refused. absurd (cc), λ none. absurd (step_not_none c.args.setup.now m c.args.event may allowed none))
