-- Each step keeps the limits of rows, of identifiers and of moments.
use Rattle.std.proofs.Common.{◌≡◌, ◌≤◌, ℕ, ◌+◌, ◌-◌, ◌^◌, List, [], ◌∷◌, ◌++◌, length, length-append, map, true, Some, suc, refl, sym, ap, ◌∙◌, subst, arith, rules}
use Rattle.std.specs.Prelude.{nat_lt, not}
use Rattle.gt_access.specs.Rule.{ended_access, live_access}
use Rattle.gt_access.specs.declared.row.AccessRow.{AccessRow}
use Rattle.gt_types.specs.Event.{has_collections, is_recordable_happening}
use Rattle.gt_types.specs.SpecParts.{entry_count}
use Rattle.gt_values.specs.Forms.{is_moment}
use Rattle.gt_types.specs.declared.act.Act.{Act}
use Rattle.gt_types.specs.declared.event.Event.{Event}
use Rattle.gt_types.specs.declared.event.Happening.{Happening}
use Rattle.gt_types.specs.declared.event.Happening.TheVariants.{AccessAdd, AccessEnd, AccessReplace, Issue, SubmitTransfer}
use Rattle.gt_types.specs.declared.spec.Spec.{Spec}
use Rattle.gt_types.specs.declared.spec.Spec.TheVariants.{Transfer as OfTransfer, Delete as OfDelete}
use Rattle.gt_setup.specs.Setup.{Setup}
use Rattle.gt_subtasks.specs.Growth.{entry_items, first_acts, first_items}
use Rattle.gt_machine.specs.MachineState.{MachineState, empty_state}
use Rattle.gt_machine.specs.RuleSteps.{has_room}
use Rattle.gt_machine.specs.Step.{effect_of, step_of}
use Rattle.gt_machine.specs.TaskSteps.{is_full, new_task, submit_step}
use Rattle.gt_machine.proofs.ApartSteps.{has_form}
use Rattle.gt_machine.proofs.Effects.{and_then_is, first_holds, only_if_is, second_holds}
use Rattle.gt_machine.proofs.Runs.{StepParts, step_is}

pub length-map : {X Y : Type 0} (f : X → Y) (xs : List X) → length (map f xs) ≡ length xs
length-map f [] = refl
length-map f (x ∷ xs) = ap suc (length-map f xs)

length-entry_items : (task number entry : ℕ) (acts : List Act) → length (entry_items task number entry acts) ≡ length acts
length-entry_items task number entry [] = refl
length-entry_items task number entry (act ∷ acts) = ap suc (length-entry_items task (number + 1) (entry + 1) acts)

-- a task begins with an item for each entry
pub length-first_items : (task number : ℕ) (spec : Spec) → length (first_items task number spec) ≡ entry_count spec
length-first_items task number (OfTransfer spec) = length-entry_items task number 0 (first_acts (OfTransfer spec)) ∙ length-map _ spec.entries
length-first_items task number (OfDelete spec) = length-entry_items task number 0 (first_acts (OfDelete spec)) ∙ length-map _ spec.entries

-- the numbers of all rows and of issued identifiers, and the greatest moment
pub record HasRowLimits (m : MachineState) : Type 0 where
  pub tasks : length m.tasks ≤ 100000
  pub items : length m.items ≤ 400000
  pub access : length m.access ≤ 10000
  pub issued : m.issued ≤ 2 ^ 48 - 1
  pub greatest : is_moment m.greatest ≡ true

one_more : {X : Type 0} (xs : List X) (x : X) (n : ℕ) → nat_lt (length xs) n ≡ true → length (xs ++ x ∷ []) ≤ n
one_more xs x n below = grind (arith, rules, length-append xs (x ∷ []), below)

kept : (x next : MachineState) → x ≡ next → HasRowLimits x → HasRowLimits next
kept x next is good = subst HasRowLimits is good

with_access : (m : MachineState) (rows : List AccessRow) → length rows ≤ 10000 → HasRowLimits m → HasRowLimits (record m { access = rows })
with_access m rows within good = record { tasks = good.tasks; items = good.items; access = within; issued = good.issued; greatest = good.greatest }

submit_within : (moment : ℕ) (owner submission : List ℕ) (spec : Spec) (m next : MachineState) → submit_step moment owner submission spec m ≡ Some next
    → HasRowLimits m → HasRowLimits next
submit_within moment owner submission spec m next is good =
    let there = only_if_is _ _ next is in
    let room : not (is_full m (entry_count spec)) ≡ true = second_holds _ _ there.0 in
    let task = new_task (length m.tasks + 1) moment owner submission spec in
    let first = first_items (length m.tasks + 1) (length m.items + 1) spec in
    kept _ next there.1 record {
      tasks = grind (arith, rules, length-append m.tasks (task ∷ []), room);
      items = grind (arith, rules, length-append m.items first, length-first_items (length m.tasks + 1) (length m.items + 1) spec, room);
      access = good.access;
      issued = good.issued;
      greatest = good.greatest;
    }

effect_within : (k moment : ℕ) (what : Happening) (m next : MachineState) → effect_of k moment what m ≡ Some next → HasRowLimits m → HasRowLimits next
effect_within k moment (Issue identity) m next is good =
    let there = only_if_is _ _ next is in
    kept _ next there.1 record {
      tasks = good.tasks;
      items = good.items;
      access = good.access;
      issued = grind (arith, rules, there.0);
      greatest = good.greatest;
    }
effect_within k moment (SubmitTransfer owner submission spec) m next is good = submit_within moment owner submission (OfTransfer spec) m next is good
effect_within k moment (AccessAdd collection spec) m next is good =
    let there = only_if_is _ _ next is in
    kept _ next there.1 (with_access m _ (one_more m.access _ 10000 (first_holds (has_room m.access) _ there.0)) good)
effect_within k moment (AccessReplace rule write) m next is good =
    let found = and_then_is _ (live_access rule m.access) next is in
    let there = only_if_is _ _ next found.2 in
    let ended = ended_access k found.0.number m.access in
    kept _ next there.1 (with_access m _ (one_more ended _ 10000 (subst (λ (n : ℕ). nat_lt n 10000 ≡ true) (sym (length-map _ m.access)) there.0)) good)
effect_within k moment (AccessEnd rule) m next is good =
    let there = only_if_is _ _ next is in
    kept _ next there.1 (with_access m (ended_access k rule m.access) (subst (λ (n : ℕ). n ≤ 10000) (sym (length-map _ m.access)) good.access) good)
effect_within k moment _ m next is good = absurd (cc)

abbrev pub HasLimits : List Event → MachineState → Type 0
HasLimits history m = HasRowLimits m

pub step_within : (setup : Setup) (history : List Event) (m next : MachineState) (event : Event) → HasLimits history m → step_of setup m event ≡ Some next
    → HasRowLimits next
step_within setup history m next event good is =
    let s : StepParts setup m next event = step_is setup m next event is in
    let within : HasRowLimits s.changed = effect_within (m.events + 1) event.moment event.what m s.changed s.effect good in
    let form = has_form setup m next event is in
    let moment : is_moment event.moment ≡ true = first_holds _ (has_collections (length setup.collections) event.what) (first_holds _ (is_recordable_happening event.what) form) in
    kept _ next (sym s.result) record {
      tasks = within.tasks;
      items = within.items;
      access = within.access;
      issued = within.issued;
      greatest = moment;
    }

pub no_limits : (namespace : ℕ) → HasRowLimits (empty_state namespace)
no_limits namespace = record { tasks = omega arith; items = omega arith; access = omega arith; issued = omega arith; greatest = refl }
