-- Only a submission adds a task; nothing changes a task's number, owner, submission identifier and specification.
use Rattle.std.proofs.Common.{◌≡◌, ◌⊎◌, ⊎_elim, inl, inr, ℕ, ◌+◌, List, [], ◌∷◌, ◌++◌, length, map, Bool, true, Option, Some, None, refl, ap, ◌∙◌, subst}
use Rattle.std.specs.Prelude.{◌&&◌, is_none}
use Rattle.gt_access.specs.Rule.{live_access}
use Rattle.gt_types.specs.declared.event.Event.{Event}
use Rattle.gt_types.specs.declared.event.Happening.{Happening}
use Rattle.gt_types.specs.declared.event.Happening.TheVariants.{AccessAdd, AccessEnd, AccessReplace, Issue, SubmitTransfer}
use Rattle.gt_types.specs.declared.spec.Spec.{Spec}
use Rattle.gt_types.specs.declared.spec.Spec.TheVariants.{Transfer as OfTransfer}
use Rattle.gt_setup.specs.Setup.{Setup}
use Rattle.gt_machine.specs.MachineState.{MachineState}
use Rattle.gt_machine.specs.Step.{effect_of, step_of}
use Rattle.gt_machine.specs.TaskSteps.{new_task, submit_step}
use Rattle.gt_tasks.specs.Tasks.{number_of}
use Rattle.gt_tasks.specs.declared.row.TaskRow.{TaskRow}
use Rattle.gt_machine.proofs.Effects.{and_then_is, only_if_is}
use Rattle.gt_machine.proofs.Runs.{StepParts, step_is}

-- what of a task never changes
pub record Key : Type 0 where
  pub number : ℕ
  pub owner : List ℕ
  pub submission : List ℕ
  pub spec : Spec

abbrev pub key_of : TaskRow → Key
key_of task = record { number = task.number; owner = task.owner; submission = task.submission; spec = task.spec }

abbrev pub keys : List TaskRow → List Key
keys tasks = map key_of tasks

pub keys-append : (tasks : List TaskRow) (task : TaskRow) → keys (tasks ++ task ∷ []) ≡ keys tasks ++ key_of task ∷ []
keys-append [] task = refl
keys-append (t ∷ ts) task = λ i. key_of t ∷ keys-append ts task i

-- the tasks have the keys of these
abbrev pub HasKeys : List TaskRow → MachineState → Type 0
HasKeys tasks m = keys m.tasks ≡ keys tasks

-- a new task stands at the end, with the next number, and its owner had none of its submission identifier
pub record IsAdded (m next : MachineState) : Type 0 where
  pub task : TaskRow
  pub number : task.number ≡ length m.tasks + 1
  pub fresh : number_of task.owner task.submission m.tasks ≡ None
  pub at_end : keys next.tasks ≡ keys m.tasks ++ key_of task ∷ []

abbrev pub KeepsKeys : MachineState → MachineState → Type 0
KeepsKeys m next = HasKeys m.tasks next ⊎ IsAdded m next

same_keys : (m x next : MachineState) → x ≡ next → HasKeys m.tasks x → KeepsKeys m next
same_keys m x next is same = inl (subst (HasKeys m.tasks) is same)

submit_keeps : (moment : ℕ) (owner submission : List ℕ) (spec : Spec) (m next : MachineState) → submit_step moment owner submission spec m ≡ Some next → KeepsKeys m next
submit_keeps moment owner submission spec m next is =
    let there = only_if_is _ _ next is in
    let row : TaskRow = new_task (length m.tasks + 1) moment owner submission spec in
    inr record {
      task = row;
      number = refl;
      fresh = is_new (number_of owner submission m.tasks) _ there.0;
      at_end = subst (λ (n : MachineState). keys n.tasks ≡ keys m.tasks ++ key_of row ∷ []) there.1 (keys-append m.tasks row);
    }
  where
    is_new : (o : Option ℕ) (b : Bool) → (is_none o && b) ≡ true → o ≡ None
    is_new None b all = refl
    is_new (Some n) b all = absurd (cc)

effect_keeps : (k moment : ℕ) (what : Happening) (m next : MachineState) → effect_of k moment what m ≡ Some next → KeepsKeys m next
effect_keeps k moment (Issue identity) m next is = same_keys m _ next (only_if_is _ _ next is).1 refl
effect_keeps k moment (SubmitTransfer owner submission spec) m next is = submit_keeps moment owner submission (OfTransfer spec) m next is
effect_keeps k moment (AccessAdd collection spec) m next is = same_keys m _ next (only_if_is _ _ next is).1 refl
effect_keeps k moment (AccessReplace rule write) m next is =
    let found = and_then_is _ (live_access rule m.access) next is in same_keys m _ next (only_if_is _ _ next found.2).1 refl
effect_keeps k moment (AccessEnd rule) m next is = same_keys m _ next (only_if_is _ _ next is).1 refl
effect_keeps k moment _ m next is = absurd (cc)

-- a step keeps the keys, or adds one
pub step_keeps_keys : (setup : Setup) (m next : MachineState) (event : Event) → step_of setup m event ≡ Some next → KeepsKeys m next
step_keeps_keys setup m next event is =
    let s : StepParts setup m next event = step_is setup m next event is in
    let same : HasKeys s.changed.tasks next = ap (λ (n : MachineState). keys n.tasks) s.result in
    ⊎_elim
    (λ (kept : HasKeys m.tasks s.changed). inl (same ∙ kept))
    (λ (new : IsAdded m s.changed). inr record { task = new.task; number = new.number; fresh = new.fresh; at_end = same ∙ new.at_end })
    (effect_keeps (m.events + 1) event.moment event.what m s.changed s.effect)
