-- Items are numbered in order: lists of items that are numbered on from a number.
use Rattle.std.proofs.Common.{◌≡◌, ℕ, zero, suc, ◌+◌, List, [], ◌∷◌, ◌++◌, length, Some, refl, sym, ap, ◌∙◌, subst, arith}
use Rattle.std.specs.Prelude.{slice_get}
use Rattle.gt_access.specs.Rule.{live_access}
use Rattle.gt_types.specs.declared.act.Act.{Act}
use Rattle.gt_types.specs.declared.event.Event.{Event}
use Rattle.gt_types.specs.declared.event.Happening.{Happening}
use Rattle.gt_types.specs.declared.event.Happening.TheVariants.{AccessAdd, AccessEnd, AccessReplace, Issue, SubmitTransfer}
use Rattle.gt_types.specs.declared.spec.Spec.{Spec}
use Rattle.gt_types.specs.declared.spec.Spec.TheVariants.{Transfer as OfTransfer}
use Rattle.gt_setup.specs.Setup.{Setup}
use Rattle.gt_subtasks.specs.Growth.{entry_items, first_acts}
use Rattle.gt_machine.specs.MachineState.{MachineState}
use Rattle.gt_machine.specs.SoundRows.{IsNumbered}
use Rattle.gt_machine.specs.Step.{effect_of, step_of}
use Rattle.gt_machine.specs.TaskSteps.{submit_step}
use Rattle.gt_subtasks.specs.declared.item.Item.{Item}
use Rattle.gt_machine.proofs.Effects.{and_then_is, only_if_is}
use Rattle.gt_machine.proofs.Runs.{StepParts, step_is}

-- the items are numbered in order, the first with this number
abbrev pub From : ℕ → List Item → Type 0
From b [] = Unit {0}
From b (x ∷ xs) = (x.number ≡ b) × From (b + 1) xs

pub from-append : (b : ℕ) (xs ys : List Item) → From b xs → From (b + length xs) ys → From b (xs ++ ys)
from-append b [] ys good more = let e : b + 0 ≡ b = omega arith in subst (λ (n : ℕ). From n ys) e more
from-append b (x ∷ xs) ys good more =
    let e : b + suc (length xs) ≡ b + 1 + length xs = omega arith in
    (good.0, from-append (b + 1) xs ys good.1 (subst (λ (n : ℕ). From n ys) e more))

pub from-entry_items : (task number entry : ℕ) (acts : List Act) → From number (entry_items task number entry acts)
from-entry_items task number entry [] = tt
from-entry_items task number entry (act ∷ acts) = (refl, from-entry_items task (number + 1) (entry + 1) acts)

at_place : (b : ℕ) (xs : List Item) → From b xs → (i : ℕ) (x : Item) → slice_get xs i ≡ Some x → x.number ≡ b + i
at_place b [] good i x at = absurd (cc)
at_place b (y ∷ ys) good zero x at = let same : y ≡ x = cc in ap (λ (z : Item). z.number) (sym same) ∙ good.0 ∙ (omega arith)
at_place b (y ∷ ys) good (suc i) x at = at_place (b + 1) ys good.1 i x at ∙ (omega arith)

pub items_numbered : (xs : List Item) → From 1 xs → IsNumbered (λ (item : Item). item.number) xs
items_numbered xs good i x at = at_place 1 xs good i x at ∙ (omega arith)

-- the state's items are numbered in order
abbrev pub InOrder : MachineState → Type 0
InOrder m = From 1 m.items

kept : (x next : MachineState) → x ≡ next → InOrder x → InOrder next
kept x next same good = subst InOrder same good

submit_in_order : (moment : ℕ) (owner submission : List ℕ) (spec : Spec) (m next : MachineState) → submit_step moment owner submission spec m ≡ Some next → InOrder m → InOrder next
submit_in_order moment owner submission spec m next is good =
    let e : length m.items + 1 ≡ 1 + length m.items = omega arith in
    kept _ next (only_if_is _ _ next is).1
    (from-append 1 m.items _ good (subst (λ (n : ℕ). From n (entry_items (length m.tasks + 1) (length m.items + 1) 0 (first_acts spec))) e (from-entry_items (length m.tasks + 1) (length m.items + 1) 0 (first_acts spec))))

effect_in_order : (k moment : ℕ) (what : Happening) (m next : MachineState) → effect_of k moment what m ≡ Some next → InOrder m → InOrder next
effect_in_order k moment (Issue identity) m next is good = kept _ next (only_if_is _ _ next is).1 good
effect_in_order k moment (SubmitTransfer owner submission spec) m next is good = submit_in_order moment owner submission (OfTransfer spec) m next is good
effect_in_order k moment (AccessAdd collection spec) m next is good = kept _ next (only_if_is _ _ next is).1 good
effect_in_order k moment (AccessReplace rule write) m next is good =
    let found = and_then_is _ (live_access rule m.access) next is in kept _ next (only_if_is _ _ next found.2).1 good
effect_in_order k moment (AccessEnd rule) m next is good = kept _ next (only_if_is _ _ next is).1 good
effect_in_order k moment _ m next is good = absurd (cc)

abbrev pub HasOrderlyItems : List Event → MachineState → Type 0
HasOrderlyItems history m = InOrder m

pub step_in_order : (setup : Setup) (history : List Event) (m next : MachineState) (event : Event) → HasOrderlyItems history m → step_of setup m event ≡ Some next
    → InOrder next
step_in_order setup history m next event good is =
    let s : StepParts setup m next event = step_is setup m next event is in
    kept _ next (sym s.result) (effect_in_order (m.events + 1) event.moment event.what m s.changed s.effect good)
