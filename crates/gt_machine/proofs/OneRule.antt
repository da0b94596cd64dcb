-- Each step keeps that live rules are one each.
use Rattle.std.proofs.Common.{◌≡◌, ℕ, ◌+◌, List, [], Bool, true, false, Some, refl, sym, subst}
use Rattle.std.specs.Prelude.{not}
use Rattle.std.specs.List.{list_any}
use Rattle.gt_types.specs.declared.event.Event.{Event}
use Rattle.gt_types.specs.declared.event.Happening.{Happening}
use Rattle.gt_types.specs.declared.event.Happening.TheVariants.{AccessAdd, AccessEnd, AccessReplace, Issue, SubmitTransfer}
use Rattle.gt_access.specs.Rule.{is_same_rule, live_access}
use Rattle.gt_setup.specs.Setup.{Setup}
use Rattle.gt_machine.specs.MachineState.{MachineState}
use Rattle.gt_machine.specs.Step.{effect_of, step_of}
use Rattle.gt_machine.proofs.Effects.{and_then_is, only_if_is, second_holds}
use Rattle.gt_machine.proofs.RuleKeys.{HasOneRuleEach, one-added, one-ended, one-replaced}
use Rattle.gt_machine.proofs.Runs.{StepParts, step_is}

-- live access rules are one each
abbrev pub OrderlyRules : MachineState → Type 0
OrderlyRules m = HasOneRuleEach m.access

kept : (x next : MachineState) → x ≡ next → OrderlyRules x → OrderlyRules next
kept x next is good = subst OrderlyRules is good

not_true : (b : Bool) → not b ≡ true → b ≡ false
not_true true is = absurd (cc)
not_true false is = refl

effect_orders : (k moment : ℕ) (what : Happening) (m next : MachineState) → effect_of k moment what m ≡ Some next → OrderlyRules m → OrderlyRules next
effect_orders k moment (Issue identity) m next is good = kept _ next (only_if_is _ _ next is).1 good
effect_orders k moment (SubmitTransfer owner submission spec) m next is good = kept _ next (only_if_is _ _ next is).1 good
effect_orders k moment (AccessAdd collection spec) m next is good =
    let there = only_if_is _ _ next is in
    kept _ next there.1 (one-added k collection spec m.access (not_true (list_any (is_same_rule collection spec) m.access) (second_holds _ _ there.0)) good)
effect_orders k moment (AccessReplace rule write) m next is good =
    let found = and_then_is _ (live_access rule m.access) next is in
    kept _ next (only_if_is _ _ next found.2).1 (one-replaced k rule write found.0 m.access found.1 good)
effect_orders k moment (AccessEnd rule) m next is good = kept _ next (only_if_is _ _ next is).1 (one-ended k rule m.access good)
effect_orders k moment _ m next is good = absurd (cc)

abbrev pub HasRuleOrder : List Event → MachineState → Type 0
HasRuleOrder history m = OrderlyRules m

pub step_orders : (setup : Setup) (history : List Event) (m next : MachineState) (event : Event) → HasRuleOrder history m → step_of setup m event ≡ Some next
    → OrderlyRules next
step_orders setup history m next event good is =
    let s : StepParts setup m next event = step_is setup m next event is in
    kept _ next (sym s.result) (effect_orders (m.events + 1) event.moment event.what m s.changed s.effect good)

pub no_rules : HasOneRuleEach []
no_rules = record { numbers = λ i j a b at_i at_j la lb s. absurd (cc); keys = λ i j a b at_i at_j la lb s. absurd (cc) }
