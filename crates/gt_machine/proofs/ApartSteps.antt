-- Each step keeps that each item has a task whose collections suit its paths.
use Rattle.std.proofs.Common.{◌≡◌, ℕ, ◌+◌, List, [], ◌∷◌, ◌++◌, length, true, Some, sym, subst}
use Rattle.std.specs.Prelude.{◌&&◌}
use Rattle.gt_access.specs.Rule.{live_access}
use Rattle.gt_types.specs.Event.{has_collections, is_recordable, is_recordable_happening}
use Rattle.gt_types.specs.declared.event.Event.{Event}
use Rattle.gt_types.specs.declared.event.Happening.{Happening}
use Rattle.gt_types.specs.declared.event.Happening.TheVariants.{AccessAdd, AccessEnd, AccessReplace, Issue, SubmitTransfer}
use Rattle.gt_types.specs.declared.spec.Spec.{Spec}
use Rattle.gt_types.specs.declared.spec.Spec.TheVariants.{Transfer as OfTransfer}
use Rattle.gt_values.specs.Forms.{is_moment}
use Rattle.gt_setup.specs.Setup.{Setup}
use Rattle.gt_subtasks.specs.Growth.{entry_items, first_acts}
use Rattle.gt_machine.specs.MachineState.{MachineState}
use Rattle.gt_machine.specs.Step.{effect_of, is_allowed, step_of}
use Rattle.gt_machine.specs.TaskSteps.{new_task, submit_step}
use Rattle.gt_subtasks.specs.declared.item.Item.{Item}
use Rattle.gt_tasks.specs.declared.row.TaskRow.{TaskRow}
use Rattle.gt_machine.proofs.Apart.{AllApart, AllTaskApart, apart-entries, apart-more_items, apart-more_tasks, new_row, transfer_apart}
use Rattle.gt_machine.proofs.Effects.{and_then_is, first_holds, only_if_is, second_holds}
use Rattle.gt_machine.proofs.ItemKeys.{ItemKey, item_keys, item_keys-append}
use Rattle.gt_machine.proofs.Runs.{StepParts, step_is}
use Rattle.gt_machine.proofs.TaskKeys.{Key, key_of, keys, keys-append}

-- each item's task is there, and suits its paths
abbrev pub Suits : MachineState → Type 0
Suits m = AllTaskApart (keys m.tasks) (item_keys m.items)

kept : (x next : MachineState) → x ≡ next → Suits x → Suits next
kept x next same good = subst Suits same good

submit_suits : (moment : ℕ) (owner submission : List ℕ) (spec : Spec) (m next : MachineState) → submit_step moment owner submission spec m ≡ Some next
    → AllApart spec (first_acts spec) → Suits m → Suits next
submit_suits moment owner submission spec m next is apart good =
    let row : TaskRow = new_task (length m.tasks + 1) moment owner submission spec in
    let first : List Item = entry_items (length m.tasks + 1) (length m.items + 1) 0 (first_acts spec) in
    subst Suits (only_if_is _ _ next is).1
    (subst (λ (ks : List Key). AllTaskApart ks (item_keys (m.items ++ first))) (sym (keys-append m.tasks row))
    (subst (λ (qs : List ItemKey). AllTaskApart (keys m.tasks ++ key_of row ∷ []) qs) (sym (item_keys-append m.items first))
    (apart-more_items (keys m.tasks ++ key_of row ∷ []) (item_keys m.items) (item_keys first)
    (apart-more_tasks (keys m.tasks) (key_of row ∷ []) (item_keys m.items) good)
    (apart-entries (keys m.tasks ++ key_of row ∷ []) (length m.tasks + 1) (length m.items + 1) 0 (key_of row) (new_row m.tasks (key_of row)) (first_acts spec) apart))))

effect_suits : (k moment : ℕ) (what : Happening) (m next : MachineState) → is_recordable_happening what ≡ true → effect_of k moment what m ≡ Some next → Suits m → Suits next
effect_suits k moment (Issue identity) m next text is good = kept _ next (only_if_is _ _ next is).1 good
effect_suits k moment (SubmitTransfer owner submission spec) m next text is good =
    submit_suits moment owner submission (OfTransfer spec) m next is (transfer_apart spec (second_holds _ _ text)) good
effect_suits k moment (AccessAdd collection spec) m next text is good = kept _ next (only_if_is _ _ next is).1 good
effect_suits k moment (AccessReplace rule write) m next text is good =
    let found = and_then_is _ (live_access rule m.access) next is in kept _ next (only_if_is _ _ next found.2).1 good
effect_suits k moment (AccessEnd rule) m next text is good = kept _ next (only_if_is _ _ next is).1 good
effect_suits k moment _ m next text is good = absurd (cc)

-- what happens at a step is within its forms
pub has_form : (setup : Setup) (m next : MachineState) (event : Event) → step_of setup m event ≡ Some next → is_recordable (length setup.collections) event ≡ true
has_form setup m next event is =
    second_holds _ (is_recordable (length setup.collections) event) (first_holds _ (is_allowed setup m event.moment event.what) (step_is setup m next event is).comes)

-- and so are its values
pub has_values : (setup : Setup) (m next : MachineState) (event : Event) → step_of setup m event ≡ Some next → is_recordable_happening event.what ≡ true
has_values setup m next event is =
    second_holds (is_moment event.moment && has_collections (length setup.collections) event.what) (is_recordable_happening event.what) (has_form setup m next event is)

abbrev pub HasSuited : List Event → MachineState → Type 0
HasSuited history m = Suits m

pub step_suits : (setup : Setup) (history : List Event) (m next : MachineState) (event : Event) → HasSuited history m → step_of setup m event ≡ Some next → Suits next
step_suits setup history m next event good is =
    let s : StepParts setup m next event = step_is setup m next event is in
    kept _ next (sym s.result) (effect_suits (m.events + 1) event.moment event.what m s.changed (has_values setup m next event is) s.effect good)

pub none_suited : AllTaskApart [] []
none_suited j q at = absurd (cc)
