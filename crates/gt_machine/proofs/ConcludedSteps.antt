-- What steps that stand already leave concluded: a new task, and changes that touch no task.
use Rattle.std.proofs.Common.{◌≡◌, ◌≤◌, ℕ, zero, suc, ◌+◌, List, [], ◌∷◌, ◌++◌, length, All, Bool, true, false, cond, None, refl, ap, ◌∙◌, subst, arith, rules}
use Rattle.std.proofs.lemmas.List.Elements.{All-append, All-cons, All-nil, All-weaker}
use Rattle.std.specs.Prelude.{IsSome, option_and_then, slice_get, ◌&&◌, ◌==◌}
use Rattle.std.specs.List.{list_all}
use Rattle.gt_machine.proofs.Effects.{first_holds, second_holds}
use Rattle.gt_machine.specs.Closing.{closing_of, is_complete}
use Rattle.gt_machine.specs.MachineState.{MachineState, empty_state}
use Rattle.gt_machine.specs.Concluded.{IsClosedOut, IsRecorded, IsConcluded}
use Rattle.gt_machine.specs.TaskSteps.{new_task, with_task}
use Rattle.gt_subtasks.specs.Growth.{entry_items, first_acts, new_item}
use Rattle.gt_subtasks.specs.Item.{has_ended, items_of}
use Rattle.gt_subtasks.specs.declared.item.Item.{Item}
use Rattle.gt_tasks.specs.declared.row.TaskRow.{TaskRow}
use Rattle.gt_types.specs.declared.act.Act.{Act}
use Rattle.gt_types.specs.declared.code.Reason.{Reason}
use Rattle.gt_types.specs.declared.spec.Spec.{Spec}
use Rattle.gt_values.specs.Rows.{row_at}

-- nothing has happened yet
pub empty_concluded : (namespace : ℕ) → IsConcluded (empty_state namespace)
empty_concluded namespace = record {
  closed = All-nil (IsClosedOut (empty_state namespace));
  recorded = All-nil (IsRecorded []);
}

-- a task more at the end, which isn't closing, closes none
closing_more : (tasks : List TaskRow) (task : TaskRow) (n : ℕ) → task.closing ≡ None
    → option_and_then (λ t. t.closing) (row_at (tasks ++ task ∷ []) n) ≡ option_and_then (λ t. t.closing) (row_at tasks n)
closing_more tasks task zero open_ = refl
closing_more tasks task (suc place) open_ = at tasks place
  where
    at : (rows : List TaskRow) (i : ℕ)
        → option_and_then (λ t. t.closing) (slice_get (rows ++ task ∷ []) i) ≡ option_and_then (λ t. t.closing) (slice_get rows i)
    at [] zero = open_
    at [] (suc i) = refl
    at (row ∷ rows) zero = refl
    at (row ∷ rows) (suc i) = at rows i

-- no task has a number above how many there are
closing_beyond : (tasks : List TaskRow) → option_and_then (λ t. t.closing) (row_at tasks (length tasks + 1)) ≡ None
closing_beyond tasks =
    let place : suc (length tasks) ≡ length tasks + 1 = omega arith in
    subst (λ n. option_and_then (λ t. t.closing) (row_at tasks n) ≡ None) place (past tasks)
  where
    past : (rows : List TaskRow) → option_and_then (λ t. t.closing) (slice_get rows (length rows)) ≡ None
    past [] = refl
    past (row ∷ rows) = past rows

-- the items of a new task are of that task
of_new_task : (task number entry : ℕ) (acts : List Act) → All (λ item. item.task ≡ task) (entry_items task number entry acts)
of_new_task task number entry [] = All-nil (λ item. item.task ≡ task)
of_new_task task number entry (act ∷ acts) =
    All-cons (λ item. item.task ≡ task) (new_item number task None entry act) (entry_items task (number + 1) (entry + 1) acts) refl
    (of_new_task task (number + 1) (entry + 1) acts)

-- what is complete with more items is complete without them, and in them
complete_parts : (task : ℕ) (xs ys : List Item) → is_complete task (xs ++ ys) ≡ true
    → (is_complete task xs ≡ true) × (is_complete task ys ≡ true)
complete_parts task [] ys complete = (refl, complete)
complete_parts task (x ∷ xs) ys complete = by_test (λ is. complete_parts task xs ys is) (x.task == task) complete
  where
    all_of : List Item → Bool
    all_of items = list_all (λ item. has_ended item.state) items

    both : (a b : Bool) → a ≡ true → b ≡ true → (a && b) ≡ true
    both true b in_a in_b = in_b
    both false b in_a in_b = absurd (cc)

    by_test : (is_complete task (xs ++ ys) ≡ true → (is_complete task xs ≡ true) × (is_complete task ys ≡ true)) → (b : Bool)
        → all_of (cond b (x ∷ items_of task (xs ++ ys)) (items_of task (xs ++ ys))) ≡ true
        → (all_of (cond b (x ∷ items_of task xs) (items_of task xs)) ≡ true) × (is_complete task ys ≡ true)
    by_test below true is =
        let rest = below (second_holds (has_ended x.state) _ is) in
        (both (has_ended x.state) _ (first_holds (has_ended x.state) _ is) rest.0, rest.1)
    by_test below false is = below is

-- a task that has items to begin with isn't complete
new_not_complete : (task number entry : ℕ) (acts : List Act) → 1 ≤ length acts → is_complete task (entry_items task number entry acts) ≡ false
new_not_complete task number entry [] some = absurd (omega (arith, some))
new_not_complete task number entry (act ∷ acts) some = by_test (task == task) same
  where
    same : (task == task) ≡ true
    same = grind rules

    by_test : (b : Bool) → b ≡ true
        → list_all (λ (item : Item). has_ended item.state)
        (cond b (new_item number task None entry act ∷ items_of task (entry_items task (number + 1) (entry + 1) acts)) (items_of task (entry_items task (number + 1) (entry + 1) acts)))
        ≡ false
    by_test true is = refl
    by_test false is = absurd (cc)

-- a new task with items leaves a concluded state concluded
pub new_task_concluded : (moment : ℕ) (owner submission : List ℕ) (spec : Spec) (m : MachineState) → 1 ≤ length (first_acts spec) → IsConcluded m
    → IsConcluded (with_task moment owner submission spec m)
new_task_concluded moment owner submission spec m some concluded =
    record {
      closed = All-append (IsClosedOut next) m.items growth
          (All-weaker (IsClosedOut m) (IsClosedOut next) (λ item stands closes. stands (subst IsSome (same_closing item.task) closes)) m.items concluded.closed)
          (All-weaker (λ item. item.task ≡ number) (IsClosedOut next)
          (λ item is closes. let none : IsSome {T = Reason} None = subst IsSome (closing_none item is) closes in absurd (cc)) growth
          (of_new_task number (length m.items + 1) 0 (first_acts spec)));
      recorded = All-append (IsRecorded next.items) m.tasks (task ∷ [])
          (All-weaker (IsRecorded m.items) (IsRecorded next.items)
          (λ row recorded complete. recorded (complete_parts row.number m.items growth complete).0) m.tasks concluded.recorded)
          (All-cons (IsRecorded next.items) task [] not_complete (All-nil (IsRecorded next.items)));
    }
  where
    next : MachineState
    next = with_task moment owner submission spec m

    number : ℕ
    number = length m.tasks + 1

    task : TaskRow
    task = new_task number moment owner submission spec

    growth : List Item
    growth = entry_items number (length m.items + 1) 0 (first_acts spec)

    same_closing : (n : ℕ) → option_and_then (λ t. t.closing) (row_at next.tasks n) ≡ option_and_then (λ t. t.closing) (row_at m.tasks n)
    same_closing n = closing_more m.tasks task n refl

    closing_none : (item : Item) → item.task ≡ number → closing_of next item ≡ None
    closing_none item is = ap (λ n. option_and_then (λ t. t.closing) (row_at next.tasks n)) is ∙ same_closing number ∙ closing_beyond m.tasks

    not_complete : IsRecorded next.items task
    not_complete complete =
        let ended = (complete_parts number m.items growth complete).1 in
        let open_ = new_not_complete number (length m.items + 1) 0 (first_acts spec) some in
        absurd (cc)
