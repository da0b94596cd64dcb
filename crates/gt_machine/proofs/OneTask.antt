-- Tasks are numbered in order, and no two have the same owner and submission identifier.
use Rattle.std.proofs.Common.{◌≡◌, ◌⊎◌, ⊎_elim, ℕ, zero, suc, ◌+◌, List, [], ◌∷◌, ◌++◌, length, true, Some, None, refl, sym, ap, ◌∙◌, subst, rules}
use Rattle.std.specs.Prelude.{slice_get}
use Rattle.std.specs.Option.{option_map}
use Rattle.std.proofs.lemmas.Option.{slice_get-map}
use lib.Pointwise.{bytes_decides}
use Rattle.gt_types.specs.declared.event.Event.{Event}
use Rattle.gt_tasks.specs.Tasks.{is_of, number_of}
use Rattle.gt_tasks.specs.declared.row.TaskRow.{TaskRow}
use Rattle.gt_setup.specs.Setup.{Setup}
use Rattle.gt_machine.specs.MachineState.{MachineState}
use Rattle.gt_machine.specs.SoundRows.{HasOneTaskEach, IsNumbered}
use Rattle.gt_machine.specs.Step.{step_of}
use Rattle.gt_machine.proofs.TaskKeys.{HasKeys, IsAdded, Key, key_of, keys, step_keeps_keys}

-- keys are numbered in order, and no two have one owner and submission identifier
pub record IsOrderly (ks : List Key) : Type 0 where
  pub numbered : (i : ℕ) (p : Key) → slice_get ks i ≡ Some p → p.number ≡ i + 1
  pub distinct : (i j : ℕ) (p q : Key) → slice_get ks i ≡ Some p → slice_get ks j ≡ Some q → p.owner ≡ q.owner → p.submission ≡ q.submission → i ≡ j

-- an owner and an identifier that are found in no row stand in no place
absent : (owner submission : List ℕ) (rows : List TaskRow) (i : ℕ) (p : Key) → number_of owner submission rows ≡ None → slice_get (keys rows) i ≡ Some p
    → p.owner ≡ owner → p.submission ≡ submission → ⊥
absent owner submission [] i p none at same_owner same = absurd (cc)
absent owner submission (r ∷ rs) zero p none at same_owner same =
    let is_r : key_of r ≡ p = cc in
    let mine : is_of owner submission r ≡ true =
    rw ((bytes_decides r.owner owner).1 (ap (λ (k : Key). k.owner) is_r ∙ same_owner), (bytes_decides r.submission submission).1 (ap (λ (k : Key). k.submission) is_r ∙ same)) refl in
    grind (rules, mine)
absent owner submission (r ∷ rs) (suc i) p none at same_owner same = grind (rules, absent owner submission rs i p)

pub at_end : {X : Type 0} (xs : List X) (new : X) (i : ℕ) (x : X) → slice_get (xs ++ new ∷ []) i ≡ Some x → (slice_get xs i ≡ Some x) ⊎ ((i ≡ length xs) × (new ≡ x))
at_end [] new zero x at = grind rules
at_end [] new (suc i) x at = grind rules
at_end (y ∷ ys) new zero x at = grind rules
at_end (y ∷ ys) new (suc i) x at = grind (rules, at_end ys new i x at)

pub length-keys : (tasks : List TaskRow) → length (keys tasks) ≡ length tasks
length-keys [] = refl
length-keys (t ∷ ts) = ap suc (length-keys ts)

one_more : (m : MachineState) (task : TaskRow) → IsOrderly (keys m.tasks) → task.number ≡ length m.tasks + 1
    → number_of task.owner task.submission m.tasks ≡ None → IsOrderly (keys m.tasks ++ key_of task ∷ [])
one_more m task good number fresh = record {
  numbered = λ i p at_i. ⊎_elim (λ (old : slice_get (keys m.tasks) i ≡ Some p). good.numbered i p old)
      (λ (last : (i ≡ length (keys m.tasks)) × (key_of task ≡ p)).
      ap (λ (k : Key). k.number) (sym last.1) ∙ number ∙ ap (λ (n : ℕ). n + 1) (sym (last.0 ∙ length-keys m.tasks)))
      (at_end (keys m.tasks) (key_of task) i p at_i);
  distinct = λ i j p q at_i at_j owner submission.
      ⊎_elim
      (λ (in_i : slice_get (keys m.tasks) i ≡ Some p).
      ⊎_elim (λ (in_j : slice_get (keys m.tasks) j ≡ Some q). good.distinct i j p q in_i in_j owner submission)
      (λ (last_j : (j ≡ length (keys m.tasks)) × (key_of task ≡ q)).
      absurd (absent task.owner task.submission m.tasks i p fresh in_i
      (owner ∙ ap (λ (k : Key). k.owner) (sym last_j.1)) (submission ∙ ap (λ (k : Key). k.submission) (sym last_j.1))))
      (at_end (keys m.tasks) (key_of task) j q at_j))
      (λ (last_i : (i ≡ length (keys m.tasks)) × (key_of task ≡ p)).
      ⊎_elim
      (λ (in_j : slice_get (keys m.tasks) j ≡ Some q).
      absurd (absent task.owner task.submission m.tasks j q fresh in_j
      (sym owner ∙ ap (λ (k : Key). k.owner) (sym last_i.1)) (sym submission ∙ ap (λ (k : Key). k.submission) (sym last_i.1))))
      (λ (last_j : (j ≡ length (keys m.tasks)) × (key_of task ≡ q)). last_i.0 ∙ sym last_j.0)
      (at_end (keys m.tasks) (key_of task) j q at_j))
      (at_end (keys m.tasks) (key_of task) i p at_i);
}

abbrev pub HasOrderlyTasks : List Event → MachineState → Type 0
HasOrderlyTasks history m = IsOrderly (keys m.tasks)

pub step_keeps_order : (setup : Setup) (history : List Event) (m next : MachineState) (event : Event) → HasOrderlyTasks history m → step_of setup m event ≡ Some next
    → IsOrderly (keys next.tasks)
step_keeps_order setup history m next event good is =
    ⊎_elim
    (λ (same : HasKeys m.tasks next). subst IsOrderly (sym same) good)
    (λ (new : IsAdded m next). subst IsOrderly (sym new.at_end) (one_more m new.task good new.number new.fresh))
    (step_keeps_keys setup m next event is)

pub no_tasks : IsOrderly []
no_tasks = record { numbered = λ i p at. absurd (cc); distinct = λ i j p q at_i at_j o s. absurd (cc) }

pub one_task : (tasks : List TaskRow) → IsOrderly (keys tasks) → HasOneTaskEach tasks
one_task tasks good i j a b at_i at_j owner submission =
    good.distinct i j (key_of a) (key_of b) (slice_get-map key_of tasks i ∙ ap (option_map key_of) at_i)
    (slice_get-map key_of tasks j ∙ ap (option_map key_of) at_j) owner submission

pub tasks_numbered : (tasks : List TaskRow) → IsOrderly (keys tasks) → IsNumbered (λ (task : TaskRow). task.number) tasks
tasks_numbered tasks good i a at_i = good.numbered i (key_of a) (slice_get-map key_of tasks i ∙ ap (option_map key_of) at_i)
