-- A parent comes before its items, in the same task.
use Rattle.std.proofs.Common.{◌≡◌, ◌<◌, ⊎_elim, ℕ, zero, suc, ◌+◌, List, [], ◌∷◌, ◌++◌, length, All, Option, Some, None, refl, sym, ap, ◌∙◌, subst, get_or}
use Rattle.std.specs.Prelude.{IsSomeAnd, slice_get}
use Rattle.std.specs.Option.{option_map}
use Rattle.std.proofs.lemmas.Option.{slice_get-get_or, slice_get-map}
use Rattle.gt_access.specs.Rule.{live_access}
use Rattle.gt_types.specs.declared.act.Act.{Act}
use Rattle.gt_types.specs.declared.event.Event.{Event}
use Rattle.gt_types.specs.declared.event.Happening.{Happening}
use Rattle.gt_types.specs.declared.event.Happening.TheVariants.{AccessAdd, AccessEnd, AccessReplace, Issue, SubmitTransfer}
use Rattle.gt_types.specs.declared.spec.Spec.{Spec}
use Rattle.gt_types.specs.declared.spec.Spec.TheVariants.{Transfer as OfTransfer}
use Rattle.gt_setup.specs.Setup.{Setup}
use Rattle.gt_subtasks.specs.Growth.{entry_items, first_acts}
use Rattle.gt_machine.specs.MachineState.{MachineState}
use Rattle.gt_machine.specs.SoundRows.{HasParentBefore}
use Rattle.gt_machine.specs.Step.{effect_of, step_of}
use Rattle.gt_machine.specs.TaskSteps.{submit_step}
use Rattle.gt_subtasks.specs.declared.item.Item.{Item}
use Rattle.gt_machine.proofs.Effects.{and_then_is, only_if_is}
use Rattle.gt_machine.proofs.ItemKeys.{ItemKey, item_key, item_keys, item_keys-append, row-append, row_at-map, split_at}
use Rattle.gt_machine.proofs.Runs.{StepParts, step_is}
use Rattle.gt_values.specs.Rows.{row_at}

-- the parent of a key stands in the list, before it and in its task
pub record HasParent (keys : List ItemKey) (key : ItemKey) (parent : ℕ) : Type 0 where
  pub before : parent < key.number
  pub above : ItemKey
  pub row : row_at keys parent ≡ Some above
  pub task : above.task ≡ key.task

-- those of the list have their parents in the other
abbrev pub AllHaveParents : List ItemKey → List ItemKey → Type 0
AllHaveParents keys new = (j : ℕ) (key : ItemKey) → slice_get new j ≡ Some key → (parent : ℕ) → key.parent ≡ Some parent → HasParent keys key parent

parents-append : (keys new : List ItemKey) → AllHaveParents keys keys → AllHaveParents keys new → AllHaveParents (keys ++ new) (keys ++ new)
parents-append keys new old more j key at parent is = wider
    (⊎_elim (λ (in_old : slice_get keys j ≡ Some key). old j key in_old parent is)
    (λ (in_new : (i : ℕ) × (slice_get new i ≡ Some key)). more in_new.0 key in_new.1 parent is) (split_at keys new j key at))
  where
    wider : HasParent keys key parent → HasParent (keys ++ new) key parent
    wider h = record { before = h.before; above = h.above; row = row-append keys new parent h.above h.row; task = h.task }

entries_have_none : (keys : List ItemKey) (task number entry : ℕ) (acts : List Act) → AllHaveParents keys (item_keys (entry_items task number entry acts))
entries_have_none keys task number entry [] j key at p is = absurd (cc)
entries_have_none keys task number entry (act ∷ acts) zero key at p is =
    let same : record { number = number; task = task; parent = None; entry = entry; act = act } ≡ key = cc in
    let none : None ≡ key.parent = ap (λ (k : ItemKey). k.parent) same in absurd (none_is_some (none ∙ is))
  where
    none_is_some : None ≡ Some p → ⊥
    none_is_some e = absurd (cc)
entries_have_none keys task number entry (act ∷ acts) (suc j) key at p is = entries_have_none keys task (number + 1) (entry + 1) acts j key at p is

-- what the keys say of the items
pub parents_before : (m : MachineState) → AllHaveParents (item_keys m.items) (item_keys m.items) → All (HasParentBefore m) m.items
parents_before m good k d below p is = (h.before, found (row_at m.items p) refl (sym (row_at-map m.items p) ∙ h.row))
  where
    item : Item
    item = get_or m.items k d

    h : HasParent (item_keys m.items) (item_key item) p
    h = good k (item_key item) (slice_get-map item_key m.items k ∙ ap (option_map item_key) (slice_get-get_or m.items k d below)) p is

    found : (o : Option Item) → row_at m.items p ≡ o → option_map item_key o ≡ Some h.above → IsSomeAnd o (λ (a : Item). a.task ≡ item.task)
    found None e same = absurd (cc)
    found (Some a) e same = let key : item_key a ≡ h.above = cc in ap (λ (q : ItemKey). q.task) key ∙ h.task

abbrev pub Parents : MachineState → Type 0
Parents m = AllHaveParents (item_keys m.items) (item_keys m.items)

kept : (x next : MachineState) → x ≡ next → Parents x → Parents next
kept x next same good = subst Parents same good

submit_parents : (moment : ℕ) (owner submission : List ℕ) (spec : Spec) (m next : MachineState) → submit_step moment owner submission spec m ≡ Some next → Parents m → Parents next
submit_parents moment owner submission spec m next is good =
    let first : List Item = entry_items (length m.tasks + 1) (length m.items + 1) 0 (first_acts spec) in
    kept _ next (only_if_is _ _ next is).1 (subst (λ (ks : List ItemKey). AllHaveParents ks ks) (sym (item_keys-append m.items first))
    (parents-append (item_keys m.items) (item_keys first) good (entries_have_none (item_keys m.items) (length m.tasks + 1) (length m.items + 1) 0 (first_acts spec))))

effect_parents : (k moment : ℕ) (what : Happening) (m next : MachineState) → effect_of k moment what m ≡ Some next → Parents m → Parents next
effect_parents k moment (Issue identity) m next is good = kept _ next (only_if_is _ _ next is).1 good
effect_parents k moment (SubmitTransfer owner submission spec) m next is good = submit_parents moment owner submission (OfTransfer spec) m next is good
effect_parents k moment (AccessAdd collection spec) m next is good = kept _ next (only_if_is _ _ next is).1 good
effect_parents k moment (AccessReplace rule write) m next is good =
    let found = and_then_is _ (live_access rule m.access) next is in kept _ next (only_if_is _ _ next found.2).1 good
effect_parents k moment (AccessEnd rule) m next is good = kept _ next (only_if_is _ _ next is).1 good
effect_parents k moment _ m next is good = absurd (cc)

abbrev pub HasParents : List Event → MachineState → Type 0
HasParents history m = Parents m

pub step_parents : (setup : Setup) (history : List Event) (m next : MachineState) (event : Event) → HasParents history m → step_of setup m event ≡ Some next
    → Parents next
step_parents setup history m next event good is =
    let s : StepParts setup m next event = step_is setup m next event is in
    kept _ next (sym s.result) (effect_parents (m.events + 1) event.moment event.what m s.changed s.effect good)

pub no_parents : AllHaveParents [] []
no_parents j key at p is = absurd (cc)
