-- A task has at most 200,000 items: its first ones, at most 10,000.
use Rattle.std.proofs.Common.{◌≡◌, ◌≤◌, ◌<◌, ℕ, ◌+◌, List, [], ◌∷◌, ◌++◌, length, length-append, Bool, true, false, Some, refl, sym, ap, ◌∙◌, subst, arith, rules, cond}
use Rattle.std.specs.Prelude.{None, nat_le, ◌==◌}
use Rattle.std.proofs.lemmas.Bool.{eqb-true}
use Rattle.std.proofs.lemmas.List.Elements.{filter-append}
use Rattle.gt_access.specs.Rule.{live_access}
use Rattle.gt_types.specs.Event.{is_recordable_happening}
use Rattle.gt_types.specs.SpecForms.{is_transfer_spec}
use Rattle.gt_types.specs.SpecParts.{entry_count}
use Rattle.gt_types.specs.declared.act.Act.{Act}
use Rattle.gt_types.specs.declared.event.Event.{Event}
use Rattle.gt_types.specs.declared.event.Happening.{Happening}
use Rattle.gt_types.specs.declared.event.Happening.TheVariants.{AccessAdd, AccessEnd, AccessReplace, Issue, SubmitTransfer}
use Rattle.gt_types.specs.declared.spec.Spec.{Spec}
use Rattle.gt_types.specs.declared.spec.Spec.TheVariants.{Delete as OfDelete, Transfer as OfTransfer}
use Rattle.gt_types.specs.declared.spec.TransferSpec.{TransferSpec}
use Rattle.gt_setup.specs.Setup.{Setup}
use Rattle.gt_subtasks.specs.Growth.{entry_items, first_acts, first_items, new_item}
use Rattle.gt_subtasks.specs.Item.{items_of}
use Rattle.gt_machine.specs.MachineState.{MachineState, empty_state}
use Rattle.gt_machine.specs.Step.{effect_of, step_of}
use Rattle.gt_machine.specs.TaskSteps.{new_task, submit_step}
use Rattle.gt_subtasks.specs.declared.item.Item.{Item}
use Rattle.gt_tasks.specs.declared.row.TaskRow.{TaskRow}
use Rattle.gt_machine.proofs.ApartSteps.{has_values}
use Rattle.gt_machine.proofs.Effects.{and_then_is, first_holds, only_if_is, second_holds}
use Rattle.gt_machine.proofs.Limits.{length-map}
use Rattle.gt_machine.proofs.Runs.{StepParts, step_is}

-- no item is of a task to come, and each task has few
pub record HasFewItems (m : MachineState) : Type 0 where
  pub fresh : (task : ℕ) → length m.tasks < task → length (items_of task m.items) ≡ 0
  pub few : (task : ℕ) → length (items_of task m.items) ≤ 200000

items-append : (task : ℕ) (xs ys : List Item) → length (items_of task (xs ++ ys)) ≡ length (items_of task xs) + length (items_of task ys)
items-append task xs ys = ap length (filter-append (λ item. item.task == task) xs ys) ∙ length-append (items_of task xs) (items_of task ys)

-- items that are made for one task are no other's
of_other : (task of number entry : ℕ) (acts : List Act) → (of == task) ≡ false → length (items_of task (entry_items of number entry acts)) ≡ 0
of_other task of number entry [] other = refl
of_other task of number entry (act ∷ acts) other = rw other (of_other task of (number + 1) (entry + 1) acts other)

at_most : (task of number entry : ℕ) (acts : List Act) → length (items_of task (entry_items of number entry acts)) ≤ length acts
at_most task of number entry [] = omega arith
at_most task of number entry (act ∷ acts) =
    by_cases (of == task) (at_most task of (number + 1) (entry + 1) acts)
  where
    rest : List Item
    rest = entry_items of (number + 1) (entry + 1) acts

    by_cases : (b : Bool) → length (items_of task rest) ≤ length acts
        → length (cond b (new_item number of None entry act ∷ items_of task rest) (items_of task rest)) ≤ length (act ∷ acts)
    by_cases true within = omega (arith, within)
    by_cases false within = omega (arith, within)

kept : (x next : MachineState) → x ≡ next → HasFewItems x → HasFewItems next
kept x next is good = subst HasFewItems is good

same_items : (m x : MachineState) → x.tasks ≡ m.tasks → x.items ≡ m.items → HasFewItems m → HasFewItems x
same_items m x tasks items good = record {
  fresh = λ task above. ap (λ (xs : List Item). length (items_of task xs)) items ∙ good.fresh task (subst (λ (ts : List TaskRow). length ts < task) tasks above);
  few = λ task. subst (λ (xs : List Item). length (items_of task xs) ≤ 200000) (sym items) (good.few task);
}

differs : (a b : ℕ) → a < b → (a == b) ≡ false
differs a b below = by_cases (a == b) refl
  where
    by_cases : (e : Bool) → (a == b) ≡ e → e ≡ false
    by_cases true is = let same : a ≡ b = eqb-true a b is in absurd (omega (arith, below, same))
    by_cases false is = refl

length-acts : (spec : Spec) → length (first_acts spec) ≡ entry_count spec
length-acts (OfTransfer spec) = length-map _ spec.entries
length-acts (OfDelete spec) = length-map _ spec.entries

-- a submission's items are those of a task to come, and few
with_first : (number from : ℕ) (spec : Spec) (tasks : ℕ) (items : List Item) → number ≡ tasks + 1 → entry_count spec ≤ 10000
    → ((task : ℕ) → tasks < task → length (items_of task items) ≡ 0) → ((task : ℕ) → length (items_of task items) ≤ 200000)
    → (task : ℕ) → length (items_of task (items ++ first_items number from spec)) ≤ 200000
with_first number from spec tasks items next small fresh few task = by_cases (number == task) refl
  where
    first : List Item
    first = first_items number from spec

    by_cases : (e : Bool) → (number == task) ≡ e → length (items_of task (items ++ first)) ≤ 200000
    by_cases true is =
        let same : number ≡ task = eqb-true number task is in
        let none : length (items_of task items) ≡ 0 = fresh task (omega (arith, same, next)) in
        omega (arith, items-append task items first, none, at_most task number from 0 (first_acts spec), length-acts spec, small)
    by_cases false is = omega (arith, items-append task items first, of_other task number from 0 (first_acts spec) is, few task)

submit_few : (moment : ℕ) (owner submission : List ℕ) (spec : Spec) (m next : MachineState) → submit_step moment owner submission spec m ≡ Some next
    → entry_count spec ≤ 10000 → HasFewItems m → HasFewItems next
submit_few moment owner submission spec m next is small good =
    kept _ next (only_if_is _ _ next is).1 record { fresh = none; few = with_first number (length m.items + 1) spec (length m.tasks) m.items refl small good.fresh good.few }
  where
    number : ℕ
    number = length m.tasks + 1

    row : TaskRow
    row = new_task number moment owner submission spec

    first : List Item
    first = first_items number (length m.items + 1) spec

    none : (task : ℕ) → length (m.tasks ++ row ∷ []) < task → length (items_of task (m.items ++ first)) ≡ 0
    none task above =
        let later : length m.tasks + 1 < task = omega (arith, above, length-append m.tasks (row ∷ [])) in
        omega (
          arith,
          items-append task m.items first,
          good.fresh task (omega (arith, later)),
          of_other task number (length m.items + 1) 0 (first_acts spec) (differs number task later),
        )

-- a document has at most 10,000 entries
few_entries : (spec : TransferSpec) → is_transfer_spec spec ≡ true → length spec.entries ≤ 10000
few_entries spec good =
    let few : nat_le (length spec.entries) 10000 ≡ true = second_holds _ _ (first_holds _ _ (second_holds _ _ good)) in grind (arith, rules, few)

effect_few : (k moment : ℕ) (what : Happening) (m next : MachineState) → is_recordable_happening what ≡ true → effect_of k moment what m ≡ Some next
    → HasFewItems m → HasFewItems next
effect_few k moment (SubmitTransfer owner submission spec) m next values is good =
    submit_few moment owner submission (OfTransfer spec) m next is (few_entries spec (second_holds _ _ values)) good
effect_few k moment (Issue identity) m next values is good = kept _ next (only_if_is _ _ next is).1 (same_items m _ refl refl good)
effect_few k moment (AccessAdd collection spec) m next values is good = kept _ next (only_if_is _ _ next is).1 (same_items m _ refl refl good)
effect_few k moment (AccessReplace rule write) m next values is good =
    let found = and_then_is _ (live_access rule m.access) next is in kept _ next (only_if_is _ _ next found.2).1 (same_items m _ refl refl good)
effect_few k moment (AccessEnd rule) m next values is good = kept _ next (only_if_is _ _ next is).1 (same_items m _ refl refl good)
effect_few k moment _ m next values is good = absurd (cc)

abbrev pub FewItems : List Event → MachineState → Type 0
FewItems history m = HasFewItems m

pub step_few : (setup : Setup) (history : List Event) (m next : MachineState) (event : Event) → FewItems history m → step_of setup m event ≡ Some next
    → HasFewItems next
step_few setup history m next event good is =
    let s : StepParts setup m next event = step_is setup m next event is in
    let after : HasFewItems s.changed = effect_few (m.events + 1) event.moment event.what m s.changed (has_values setup m next event is) s.effect good in
    kept _ next (sym s.result) (same_items s.changed _ refl refl after)

pub no_items : (namespace : ℕ) → HasFewItems (empty_state namespace)
no_items namespace = record { fresh = λ task above. refl; few = λ task. omega arith }
