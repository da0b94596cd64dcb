-- Concluding: each event leaves a concluded state, and where one task changed concluding that task is enough.
use Rattle.std.proofs.Common.{◌≡◌, ◌≢◌, ℕ, zero, suc, List, [], ◌∷◌, map, All, Bool, true, false, cond, Option, Some, None, refl, sym, ap, ◌∙◌, subst}
use Rattle.std.proofs.lemmas.List.Elements.{All-head, All-tail, All-map, All-weaker}
use Rattle.std.proofs.lemmas.Option.{slice_get-map}
use Rattle.std.specs.Prelude.{IsSome, option_and_then, if◌then◌else◌, is_none, slice_get, ◌&&◌, ◌==◌}
use Rattle.std.specs.List.{list_all}
use Rattle.std.specs.Option.{option_map}
use Rattle.gt_machine.proofs.ChangeLemmas.{all_at, all_changed, differs, equal_test, filter_changed, if_false, map_alike, map_at_number, map_same, numbered_row, other_row, unlike_test}
use Rattle.gt_machine.specs.Closing.{close_failed, close_items, closed_item, closing_of, complete_tasks, completed_task, end_by, is_complete, put_item, concluded_state, with_item}
use Rattle.gt_machine.specs.ItemStates.{failure_in, is_waiting, with_state}
use Rattle.gt_machine.specs.MachineState.{MachineState, item_at, task_at}
use Rattle.gt_machine.specs.Concluded.{IsClosedOut, IsRecorded, IsConcluded, IsConcludedBut, close_items_of, closed_in, complete_task, concluded_task}
use Rattle.gt_machine.specs.SoundRows.{IsNumbered}
use Rattle.gt_subtasks.specs.Item.{has_ended, items_of}
use Rattle.gt_subtasks.specs.declared.item.Item.{Item}
use Rattle.gt_tasks.specs.Changes.{closed_for, completed_at}
use Rattle.gt_tasks.specs.declared.row.TaskRow.{TaskRow}
use Rattle.gt_types.specs.declared.code.Code.{Code}
use Rattle.gt_types.specs.declared.code.Reason.{Reason}
use Rattle.gt_types.specs.declared.code.Reason.TheVariants.{Canceled, Code as ByCode, Deadline}
use Rattle.gt_values.specs.Rows.{changed_at, row_at}

-- an item that doesn't wait, or whose task isn't closing, stays
closed_same : (k : ℕ) (o : Option Reason) (item : Item) → (IsSome o → is_waiting item.state ≡ false) → closed_item k o item ≡ item
closed_same k None item stands = refl
closed_same k (Some reason) item stands = if_false (is_waiting item.state) _ item (stands refl)

-- a task that isn't complete, or whose moment is recorded, stays
completed_same : (moment : ℕ) (items : List Item) (task : TaskRow) → IsRecorded items task → completed_task moment items task ≡ task
completed_same moment items task recorded = by_cases task.completed (is_complete task.number items) recorded
  where
    by_cases : (o : Option ℕ) (b : Bool) → (b ≡ true → IsSome o) → (if is_none o && b then completed_at moment task else task) ≡ task
    by_cases (Some n) b there = refl
    by_cases None false there = refl
    by_cases None true there = let some : IsSome {T = ℕ} None = there refl in absurd (cc)

-- a concluded state has nothing to conclude
pub concluded_same : (k moment : ℕ) (m : MachineState) → IsConcluded m → concluded_state k moment m ≡ m
concluded_same k moment m concluded =
    let stay : map (λ item. closed_item k (closing_of m item) item) m.items ≡ m.items =
    map_same (λ item. closed_item k (closing_of m item) item) m.items
    (All-weaker (IsClosedOut m) (λ item. closed_item k (closing_of m item) item ≡ item)
    (λ item stands. closed_same k (closing_of m item) item stands) m.items concluded.closed) in
    let closed : close_items k m ≡ m = λ i. record m { items = stay i } in
    let done : map (completed_task moment m.items) m.tasks ≡ m.tasks =
    map_same (completed_task moment m.items) m.tasks
    (All-weaker (IsRecorded m.items) (λ task. completed_task moment m.items task ≡ task)
    (λ task recorded. completed_same moment m.items task recorded) m.tasks concluded.recorded) in
    let completed : complete_tasks moment m ≡ m = λ i. record m { tasks = done i } in
    ap (complete_tasks moment) closed ∙ completed

-- the reason for which a task closes
abbrev closing_in : Option TaskRow → Option Reason
closing_in o = option_and_then (λ task. task.closing) o

completed_closing : (moment : ℕ) (items : List Item) (o : Option TaskRow) → closing_in (option_map (completed_task moment items) o) ≡ closing_in o
completed_closing moment items None = refl
completed_closing moment items (Some task) = by_test (is_none task.completed && is_complete task.number items)
  where
    by_test : (b : Bool) → (if b then completed_at moment task else task).closing ≡ task.closing
    by_test true = refl
    by_test false = refl

row_map : {X : Type 0} (f : X → X) (xs : List X) (n : ℕ) → row_at (map f xs) n ≡ option_map f (row_at xs n)
row_map f xs zero = refl
row_map f xs (suc i) = slice_get-map f xs i

closed_of_task : (k : ℕ) (o : Option Reason) (item : Item) → (closed_item k o item).task ≡ item.task
closed_of_task k None item = refl
closed_of_task k (Some reason) item = by_test (is_waiting item.state)
  where
    by_test : (b : Bool) → (if b then with_state k (end_by reason) item else item).task ≡ item.task
    by_test true = refl
    by_test false = refl

closed_waits : (k : ℕ) (o : Option Reason) (item : Item) → IsSome o → is_waiting (closed_item k o item).state ≡ false
closed_waits k None item closes = absurd (cc)
closed_waits k (Some reason) item closes = by_test (is_waiting item.state) refl
  where
    ends : (r : Reason) → is_waiting (end_by r) ≡ false
    ends Canceled = refl
    ends Deadline = refl
    ends (ByCode code) = refl

    by_test : (b : Bool) → is_waiting item.state ≡ b → is_waiting (if b then with_state k (end_by reason) item else item).state ≡ false
    by_test true is = ends reason
    by_test false is = is

completed_recorded : (moment : ℕ) (items : List Item) (task : TaskRow) → IsRecorded items (completed_task moment items task)
completed_recorded moment items task = by_cases task.completed (is_complete task.number items) refl refl
  where
    by_cases : (o : Option ℕ) (b : Bool) → task.completed ≡ o → is_complete task.number items ≡ b
        → IsRecorded items (if is_none o && b then completed_at moment task else task)
    by_cases (Some n) b is ended complete = subst IsSome (sym is) refl
    by_cases None true is ended complete = refl
    by_cases None false is ended complete = absurd (cc)

-- each event leaves a concluded state
pub concluded_concludes : (k moment : ℕ) (m : MachineState) → IsConcluded (concluded_state k moment m)
concluded_concludes k moment m =
    record {
      closed = All-map (IsClosedOut next) close m.items (λ i d within. closed_out _);
      recorded = All-map (IsRecorded next.items) (completed_task moment next.items) m.tasks (λ i d within. completed_recorded moment next.items _);
    }
  where
    next : MachineState
    next = concluded_state k moment m

    close : Item → Item
    close item = closed_item k (closing_of m item) item

    same_closing : (item : Item) → closing_of next (close item) ≡ closing_of m item
    same_closing item =
        ap (λ n. closing_in (task_at next n)) (closed_of_task k (closing_of m item) item)
        ∙ ap closing_in (row_map (completed_task moment next.items) m.tasks item.task)
        ∙ completed_closing moment next.items (task_at m item.task)

    closed_out : (item : Item) → IsClosedOut next (close item)
    closed_out item closes = closed_waits k (closing_of m item) item (subst IsSome (same_closing item) closes)

-- an item of another task stays where it is closed out, and one of the task is closed
closed_alike : (k number : ℕ) (m : MachineState) (item : Item) → (item.task ≢ number → IsClosedOut m item)
    → closed_item k (closing_of m item) item ≡ closed_in k number m item
closed_alike k number m item stands = by_test (item.task == number) refl
  where
    closed : Item
    closed = closed_item k (closing_of m item) item

    by_test : (b : Bool) → (item.task == number) ≡ b → closed ≡ (if b then closed else item)
    by_test true is = refl
    by_test false is = closed_same k (closing_of m item) item (stands (differs item.task number is))

-- the items of another task are as before
other_items : (f : Item → Item) (task : ℕ) (items : List Item)
    → All (λ item. ((f item).task ≡ item.task) × (item.task ≡ task → f item ≡ item)) items → items_of task (map f items) ≡ items_of task items
other_items f task [] all = refl
other_items f task (item ∷ items) all =
    of_test ((f item).task == task) (item.task == task) refl (ap (λ n. n == task) here.0)
    (other_items f task items (All-tail (λ item. ((f item).task ≡ item.task) × (item.task ≡ task → f item ≡ item)) item items all))
  where
    here : ((f item).task ≡ item.task) × (item.task ≡ task → f item ≡ item)
    here = All-head (λ item. ((f item).task ≡ item.task) × (item.task ≡ task → f item ≡ item)) item items all

    of_test : (b c : Bool) → (item.task == task) ≡ c → b ≡ c → items_of task (map f items) ≡ items_of task items
        → cond b (f item ∷ items_of task (map f items)) (items_of task (map f items)) ≡ cond c (item ∷ items_of task items) (items_of task items)
    of_test true true is same rest = let e : f item ≡ item = here.1 (equal_test item.task task is) in λ i. e i ∷ rest i
    of_test false false is same rest = rest
    of_test true false is same rest = absurd (cc)
    of_test false true is same rest = absurd (cc)

-- where all but one task are concluded, concluding is concluding that task
pub conclude_one : (k moment number : ℕ) (m : MachineState) → IsNumbered (λ task. task.number) m.tasks → IsConcludedBut number m
    → concluded_state k moment m ≡ concluded_task k moment number m
conclude_one k moment number m numbered concluded = ap (complete_tasks moment) closed ∙ completed
  where
    closed : close_items k m ≡ close_items_of k number m
    closed =
        let alike : map (λ item. closed_item k (closing_of m item) item) m.items ≡ map (closed_in k number m) m.items =
        map_alike (λ item. closed_item k (closing_of m item) item) (closed_in k number m) m.items
        (All-weaker (λ item. item.task ≢ number → IsClosedOut m item) (λ item. closed_item k (closing_of m item) item ≡ closed_in k number m item)
        (λ item stands. closed_alike k number m item stands) m.items concluded.closed) in
        λ i. record m { items = alike i }

    after : MachineState
    after = close_items_of k number m

    of_task : (item : Item) → (closed_in k number m item).task ≡ item.task
    of_task item = by_test (item.task == number)
      where
        by_test : (b : Bool) → (if b then closed_item k (closing_of m item) item else item).task ≡ item.task
        by_test true = closed_of_task k (closing_of m item) item
        by_test false = refl

    stays : (task : ℕ) → task ≢ number → (item : Item) → item.task ≡ task → closed_in k number m item ≡ item
    stays task other item is = if_false (item.task == number) _ item (unlike_test item.task number (λ same. other (sym is ∙ same)))

    same_complete : (task : ℕ) → task ≢ number → is_complete task after.items ≡ is_complete task m.items
    same_complete task other =
        ap (λ items. list_all (λ (item : Item). has_ended item.state) items)
        (other_items (closed_in k number m) task m.items (λ i d within. (of_task _, stays task other _)))

    kept : (i : ℕ) (task : TaskRow) → slice_get m.tasks i ≡ Some task → task.number ≢ number → completed_task moment after.items task ≡ task
    kept i task at other =
        completed_same moment after.items task
        (λ complete. all_at (λ task. task.number ≢ number → IsRecorded m.items task) m.tasks i task concluded.recorded at other
        (sym (same_complete task.number other) ∙ complete))

    completed : complete_tasks moment after ≡ complete_task moment number after
    completed =
        let same : map (completed_task moment after.items) m.tasks ≡ changed_at number (completed_task moment after.items) m.tasks =
        map_at_number (λ task. task.number) (completed_task moment after.items) m.tasks number numbered kept in
        λ i. record after { tasks = same i }

-- where the task isn't closing its items stay
pub not_closing : (k number : ℕ) (m : MachineState) (task : TaskRow) → task_at m number ≡ Some task → task.closing ≡ None → close_items_of k number m ≡ m
not_closing k number m task at open_ = λ i. record m { items = stay i }
  where
    closing_none : (item : Item) → item.task ≡ number → closing_of m item ≡ None
    closing_none item is = ap (λ n. closing_in (task_at m n)) is ∙ ap closing_in at ∙ open_

    stays : (item : Item) → closed_in k number m item ≡ item
    stays item = by_test (item.task == number) refl
      where
        by_test : (b : Bool) → (item.task == number) ≡ b → (if b then closed_item k (closing_of m item) item else item) ≡ item
        by_test true is = ap (λ o. closed_item k o item) (closing_none item (equal_test item.task number is))
        by_test false is = refl

    stay : map (closed_in k number m) m.items ≡ m.items
    stay = map_same (closed_in k number m) m.items (λ i d within. stays _)

-- after a change of one item all tasks but its own are concluded
pub put_but_one : (number : ℕ) (old item : Item) (m : MachineState) → IsConcluded m → item_at m number ≡ Some old → item.task ≡ old.task
    → IsConcludedBut item.task (put_item number item m)
put_but_one number old item m concluded at same =
    record {
      closed = all_changed (λ x. x.task ≢ item.task → IsClosedOut m x) number (λ _. item) m.items
          (λ x there other. absurd (other refl))
          (All-weaker (IsClosedOut m) (λ x. x.task ≢ item.task → IsClosedOut m x) (λ x stands other. stands) m.items concluded.closed);
      recorded = All-weaker (IsRecorded m.items) (λ task. task.number ≢ item.task → IsRecorded next.items task)
          (λ task recorded other complete. recorded (sym (same_complete task.number other) ∙ complete)) m.tasks concluded.recorded;
    }
  where
    next : MachineState
    next = put_item number item m

    same_complete : (task : ℕ) → task ≢ item.task → is_complete task next.items ≡ is_complete task m.items
    same_complete task other =
        ap (λ items. list_all (λ (x : Item). has_ended x.state) items)
        (filter_changed (λ (x : Item). x.task == task) m.items number old item at
        (unlike_test old.task task (λ is. other (sym is ∙ sym same))) (unlike_test item.task task (λ is. other (sym is))))

-- and after that task was closed
closed_but_one : (number : ℕ) (reason : Reason) (m : MachineState) → IsNumbered (λ task. task.number) m.tasks → IsConcludedBut number m
    → IsConcludedBut number (record m { tasks = changed_at number (closed_for reason) m.tasks })
closed_but_one number reason m numbered concluded =
    record {
      closed = All-weaker (λ x. x.task ≢ number → IsClosedOut m x) (λ x. x.task ≢ number → IsClosedOut next x)
          (λ x stands other closes. stands other (subst IsSome (ap closing_in (other_row (closed_for reason) m.tasks number x.task other)) closes))
          m.items concluded.closed;
      recorded = all_changed (λ task. task.number ≢ number → IsRecorded m.items task) number (closed_for reason) m.tasks
          (λ task there other. absurd (other (numbered_row (λ task. task.number) m.tasks number task numbered there)))
          concluded.recorded;
    }
  where
    next : MachineState
    next = record m { tasks = changed_at number (closed_for reason) m.tasks }

-- after an attempt at one item, which may have closed its task, all tasks but its own are concluded
pub with_but_one : (number : ℕ) (old item : Item) (m : MachineState) → IsNumbered (λ task. task.number) m.tasks → IsConcluded m
    → item_at m number ≡ Some old → item.task ≡ old.task → IsConcludedBut item.task (with_item number item m)
with_but_one number old item m numbered concluded at same =
    by_cases (failure_in item.state) (closing_of m item) (put_but_one number old item m concluded at same)
  where
    by_cases : (failure : Option Code) (closing : Option Reason) → IsConcludedBut item.task (put_item number item m)
        → IsConcludedBut item.task (close_failed item.task failure closing (put_item number item m))
    by_cases None closing but = but
    by_cases (Some code) None but = closed_but_one item.task (ByCode code) (put_item number item m) numbered but
    by_cases (Some code) (Some reason) but = but
