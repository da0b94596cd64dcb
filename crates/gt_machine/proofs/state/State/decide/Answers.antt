use Rattle.std.proofs.Common.{◌≡◌, ◌<◌, ◌^◌, ℕ, Result, Ok, Err, rules, subst, sym, length}
use Rattle.std.specs.Prelude.{IfOk, IsTrue}
use Rattle.gt_machine.specs.Answer.{HasStep}
use Rattle.gt_machine.specs.Decision.{said}
use Rattle.gt_machine.specs.declared.decision.Decision.{Decision}
use Rattle.gt_machine.proofs.AnswerLemmas.{answer_printable}
use Rattle.gt_machine.proofs.Soundness.{sound_state}
use Rattle.gt_types.specs.declared.reply.Reply.{Reply}
use Rattle.gt_machine.proofs.StepAnswers.{answer_steps}
use Rattle.gt_machine.proofs.state.State.decide.Goals as goal
use Rattle.gt_types.specs.Reply.{is_printable}

-- what holds of the one value of an answer holds of the answer
of_value : {E : Type 0} (P : Decision Reply → Type 0) (d : Decision Reply) (r : Result (Decision Reply) E) → IfOk r (λ x. x ≡ d) → P d → IfOk r P
of_value P d (Ok x) is holds = subst P (sym is) holds
of_value P d (Err e) is holds = tt

pub returns-clause-printable : goal.returns-clause-printable
returns-clause-printable c =
    of_value (λ (d : Decision Reply). IsTrue (is_printable (length c.args.setup.now.collections) (said d))) _ c.answer.result c.answer.ensures
    (answer_printable c.args.setup.now c.requires.reached.0 c.args.self.now.machine c.args.who.now.identity c.args.command.now c.args.now
    (sound_state c.args.setup.now c.requires.reached.0 c.args.self.now.machine c.requires.reached.1) c.requires.within)

pub returns-clause-has_step : goal.returns-clause-has_step
returns-clause-has_step c =
    of_value (HasStep c.args.setup.now c.args.self.now.machine) _ c.answer.result c.answer.ensures
    (answer_steps c.args.setup.now c.requires.reached.0 c.args.self.now.machine c.args.who.now.identity c.args.command.now c.args.now
    (sound_state c.args.setup.now c.requires.reached.0 c.args.self.now.machine c.requires.reached.1) c.requires.known c.as_bytes-identity.ensures.fits
    (grind (rules, c.seconds-seconds.ensures.bound, c.seconds-seconds.ensures.value))
    (subst (λ (n : ℕ). n < 2 ^ 32) c.collections-collections.ensures c.collections-collections.type_inv) c.requires.within)
