-- A reply shows the caller's tasks and items, and the rules of the collections that the caller owns.
use Rattle.std.proofs.Common.{◌≡◌, ℕ, ◌+◌, List, length, map, All, Bool, true, false, Option, Some, None, refl, sym, subst, arith, rules, if◌then◌else◌}
use Rattle.std.specs.List.{list_any}
use Rattle.std.specs.Option.{option_map_or}
use Rattle.std.specs.Prelude.{IsSomeAnd, filter, slice_get, ◌&&◌, ◌==◌}
use Rattle.std.specs.Str.{bytes_eq}
use Rattle.std.proofs.lemmas.List.Elements.{All-filter, All-map, All-weaker, filter_passes}
use Rattle.std.proofs.lemmas.Option.{slice_get-get_or}
use Rattle.gt_access.specs.Rule.{is_live_access, is_same_rule, next_rule}
use Rattle.gt_access.specs.declared.row.AccessRow.{AccessRow}
use Rattle.gt_machine.specs.Answer.{answer_of}
use Rattle.gt_machine.specs.Decision.{doing, refusing, said}
use Rattle.gt_machine.specs.Document.{access_document, access_rules, end_of, is_skipped, pair_of, skipped_document, task_document, tasks_of}
use Rattle.gt_machine.specs.Lists.{page_of, sorted_by}
use Rattle.gt_machine.specs.MachineState.{MachineState, task_at}
use Rattle.gt_machine.specs.Named.{rule_named, task_named}
use Rattle.gt_machine.specs.RuleAnswer.{access_list_reply, access_reply, add_access_answer, end_access_answer, replace_access_answer}
use Rattle.gt_machine.specs.RuleSteps.{has_room}
use Rattle.gt_machine.specs.Shown.{IsOfCaller, ShowsItemOf, ShowsOwn, ShowsRuleOf}
use Rattle.gt_machine.specs.Sound.{IsSound}
use Rattle.gt_machine.specs.TaskAnswer.{skipped_reply, submitted, successes_reply, task_reply}
use Rattle.gt_machine.specs.TaskSteps.{can_issue, is_full}
use Rattle.gt_machine.specs.declared.decision.Decision.{Decision}
use Rattle.gt_machine.specs.declared.decision.Decision.TheVariants.{Say}
use Rattle.gt_machine.proofs.ListLemmas.{All-page, All-sorted}
use Rattle.gt_machine.proofs.NamedLemmas.{RulePlace, at_number, rule_place, task_place}
use Rattle.gt_setup.specs.Setup.{Setup, is_owner}
use Rattle.gt_subtasks.specs.Item.{is_copied, items_of}
use Rattle.gt_subtasks.specs.declared.item.Item.{Item}
use Rattle.gt_tasks.specs.Tasks.{number_of}
use Rattle.gt_tasks.specs.declared.row.TaskRow.{TaskRow}
use Rattle.gt_types.specs.declared.command.Command.{Command}
use Rattle.gt_types.specs.declared.command.Command.TheVariants.{AddAccess, AddPause, CancelTask, EndAccess, EndPause, IssueId, ListAccess, ListPauses, ListSkipped, ListSuccesses, ListTasks, ReplaceAccess, ShowAccess, ShowEndpoint, ShowPause, ShowTask, SubmitDelete as AskDelete, SubmitTransfer as AskTransfer, UpdateTask}
use Rattle.gt_types.specs.declared.event.Event.{Event}
use Rattle.gt_types.specs.declared.event.Happening.TheVariants.{AccessAdd, AccessReplace, Issue, SubmitTransfer}
use Rattle.gt_types.specs.declared.reply.Reply.{Reply}
use Rattle.gt_types.specs.declared.reply.Reply.TheVariants.{AccessCreated, Done, Identifier}
use Rattle.gt_types.specs.declared.reply.ResultCode.TheVariants.{Updated}
use Rattle.gt_types.specs.declared.reply.ReplyCode.TheVariants.{Exists, LimitReached, PermissionDenied, RuleNotFound, TaskNotFound}

-- the rows that pass a test stand in the list
stands_filtered : {X : Type 0} (p : X → Bool) (xs : List X) → All (λ x. ((i : ℕ) × (slice_get xs i ≡ Some x)) × (p x ≡ true)) (filter p xs)
stands_filtered {X} p xs i d within =
    (All-filter p (λ x. (i : ℕ) × (slice_get xs i ≡ Some x)) xs (λ j e below. (j, slice_get-get_or xs j e below)) i d within, filter_passes p xs i d within)

-- the caller's tasks
tasks_own : (m : MachineState) (identity : List ℕ) (limit offset : ℕ) → All (IsOfCaller identity) (map (task_document m) (page_of limit offset (tasks_of identity m)))
tasks_own m identity limit offset =
    All-map (IsOfCaller identity) (task_document m) (page_of limit offset (tasks_of identity m))
    (All-page (λ task. bytes_eq task.owner identity ≡ true) limit offset (tasks_of identity m) (filter_passes (λ task. bytes_eq task.owner identity) m.tasks))

-- rows of items of one of the caller's tasks
items_own : {X : Type 0} (m : MachineState) (identity : List ℕ) (shown : Item → X) (p : Item → Bool) (limit offset : ℕ) (task : TaskRow)
    → IsSomeAnd (task_at m task.number) (λ (t : TaskRow). bytes_eq t.owner identity ≡ true)
    → All (ShowsItemOf m identity shown) (map shown (page_of limit offset (sorted_by end_of (filter p (items_of task.number m.items)))))
items_own m identity shown p limit offset task owned =
    All-map (ShowsItemOf m identity shown) shown (page_of limit offset (sorted_by end_of (filter p (items_of task.number m.items))))
    (All-page Stands limit offset (sorted_by end_of (filter p (items_of task.number m.items)))
    (All-sorted Stands end_of (filter p (items_of task.number m.items)) (All-filter p Stands (items_of task.number m.items) each)))
  where
    Stands : Item → Type 0
    Stands item = ShowsItemOf m identity shown (shown item)

    Found : Item → Type 0
    Found item = ((i : ℕ) × (slice_get m.items i ≡ Some item)) × ((item.task == task.number) ≡ true)

    of_number : (a : ℕ) → (a == task.number) ≡ true → IsSomeAnd (task_at m a) (λ (t : TaskRow). bytes_eq t.owner identity ≡ true)
    of_number a is = let same : a ≡ task.number = grind (arith, rules, is) in subst (λ (n : ℕ). IsSomeAnd (task_at m n) (λ (t : TaskRow). bytes_eq t.owner identity ≡ true)) (sym same) owned

    each : All Stands (items_of task.number m.items)
    each = All-weaker Found Stands (λ item found. (item, found.0, of_number item.task found.1, refl)) (items_of task.number m.items)
        (stands_filtered (λ item. item.task == task.number) m.items)

-- rules of a collection that the caller owns
rules_own : (setup : Setup) (m : MachineState) (identity : List ℕ) (collection : ℕ) → is_owner setup identity collection ≡ true
    → All (ShowsRuleOf setup m identity) (map access_document (access_rules m collection))
rules_own setup m identity collection owns =
    All-map (ShowsRuleOf setup m identity) access_document (access_rules m collection) (All-sorted Stands (λ row. row.number) (filter kept m.access) each)
  where
    Stands : AccessRow → Type 0
    Stands row = ShowsRuleOf setup m identity (access_document row)

    kept : AccessRow → Bool
    kept row = is_live_access row && (row.collection == collection)

    Found : AccessRow → Type 0
    Found row = ((i : ℕ) × (slice_get m.access i ≡ Some row)) × (kept row ≡ true)

    owned : (a : ℕ) (live : Bool) → (live && (a == collection)) ≡ true → is_owner setup identity a ≡ true
    owned a live is = let same : a ≡ collection = same_number a live is in subst (λ (n : ℕ). is_owner setup identity n ≡ true) (sym same) owns
      where
        same_number : (a : ℕ) (live : Bool) → (live && (a == collection)) ≡ true → a ≡ collection
        same_number a true is = grind (arith, rules, is)
        same_number a false is = absurd (cc)

    each : All Stands (filter kept m.access)
    each = All-weaker Found Stands (λ row found. (row, found.0, owned row.collection (is_live_access row) found.1, refl)) (filter kept m.access) (stands_filtered kept m.access)

-- what is said of a task, where it is found
on_task_own : (setup : Setup) (m : MachineState) (identity : List ℕ) (o : Option TaskRow) (reply : TaskRow → Reply)
    → ((task : TaskRow) → o ≡ Some task → ShowsOwn setup m identity (reply task))
    → ShowsOwn setup m identity (said (option_map_or (λ task. Say (reply task)) o (refusing TaskNotFound)))
on_task_own setup m identity None reply each = tt
on_task_own setup m identity (Some task) reply each = each task refl

-- a task that is found is the caller's, and the one of its number
found_own : (setup : Setup) (history : List Event) (m : MachineState) (identity id : List ℕ) (task : TaskRow) → IsSound setup history m → task_named setup m identity id ≡ Some task
    → IsSomeAnd (task_at m task.number) (λ (t : TaskRow). bytes_eq t.owner identity ≡ true)
found_own setup history m identity id task sound is =
    let found = task_place setup m identity id task is in
    let number : task.number ≡ found.0 + 1 = sound.numbered.tasks found.0 task found.1 in
    let at : task_at m task.number ≡ Some task = at_number m.tasks found.0 task.number task number found.1 in
    rw at (found.2)

-- what is decided for an owner
as_owner_own : (setup : Setup) (m : MachineState) (identity : List ℕ) (owns : Bool) (decision : Decision Reply) → (owns ≡ true → ShowsOwn setup m identity (said decision))
    → ShowsOwn setup m identity (said (if owns then decision else refusing PermissionDenied))
as_owner_own setup m identity true decision own = own refl
as_owner_own setup m identity false decision own = tt

-- what is decided of a rule, for the owner
on_rule_own : (setup : Setup) (m : MachineState) (identity : List ℕ) (owns : Bool) (o : Option AccessRow) (decide : AccessRow → Decision Reply)
    → (owns ≡ true → (row : AccessRow) → o ≡ Some row → ShowsOwn setup m identity (said (decide row)))
    → ShowsOwn setup m identity (said (if owns then option_map_or decide o (refusing RuleNotFound) else refusing PermissionDenied))
on_rule_own setup m identity false o decide own = tt
on_rule_own setup m identity true None decide own = tt
on_rule_own setup m identity true (Some row) decide own = own refl row refl

add_own : (setup : Setup) (m : MachineState) (identity : List ℕ) (decision : Decision Reply) (other : Decision Reply) (same : Bool)
    → ShowsOwn setup m identity (said decision) → ShowsOwn setup m identity (said other) → ShowsOwn setup m identity (said (if same then decision else other))
add_own setup m identity decision other true first second = first
add_own setup m identity decision other false first second = second

-- the rule that is found is of the collection
rule_own : (setup : Setup) (m : MachineState) (identity : List ℕ) (collection : ℕ) (row : AccessRow) → is_owner setup identity collection ≡ true → RulePlace m collection row
    → ShowsRuleOf setup m identity (access_document row)
rule_own setup m identity collection row owns at =
    let same : row.collection ≡ collection = same_number row.collection at.own in
    (row, (at.place, at.at), subst (λ (n : ℕ). is_owner setup identity n ≡ true) (sym same) owns, refl)
  where
    same_number : (a : ℕ) → (a == collection) ≡ true → a ≡ collection
    same_number a is = grind (arith, rules, is)

pub answer_own : (setup : Setup) (history : List Event) (m : MachineState) (identity : List ℕ) (command : Command) (now : ℕ) → IsSound setup history m
    → ShowsOwn setup m identity (said (answer_of setup m identity command now))
answer_own setup history m identity IssueId now sound = of_issue (can_issue m)
  where
    of_issue : (can : Bool) → ShowsOwn setup m identity (said (if can then doing m now (Issue identity) (Identifier (m.issued + 1)) else refusing LimitReached))
    of_issue true = tt
    of_issue false = tt
answer_own setup history m identity (AskTransfer submission spec) now sound = of_submit (number_of identity submission m.tasks) (is_full m (length spec.entries))
  where
    of_submit : (o : Option ℕ) (full : Bool) → ShowsOwn setup m identity (said (option_map_or (λ task. Say (submitted false submission task)) o
        (if full then refusing LimitReached else doing m now (SubmitTransfer identity submission spec) (submitted true submission (length m.tasks + 1)))))
    of_submit (Some n) full = tt
    of_submit None true = tt
    of_submit None false = tt
answer_own setup history m identity (AskDelete submission spec) now sound = tt
answer_own setup history m identity (ListTasks limit offset) now sound = tasks_own m identity limit offset
answer_own setup history m identity (ShowTask id) now sound =
    on_task_own setup m identity (task_named setup m identity id) (task_reply m) (λ task is. (task_place setup m identity id task is).2)
answer_own setup history m identity (UpdateTask task label deadline) now sound = tt
answer_own setup history m identity (CancelTask task) now sound = tt
answer_own setup history m identity (ListSuccesses id limit offset) now sound =
    on_task_own setup m identity (task_named setup m identity id) (successes_reply m limit offset)
    (λ task is. items_own m identity pair_of is_copied limit offset task (found_own setup history m identity id task sound is))
answer_own setup history m identity (ListSkipped id limit offset) now sound =
    on_task_own setup m identity (task_named setup m identity id) (skipped_reply m limit offset)
    (λ task is. items_own m identity skipped_document is_skipped limit offset task (found_own setup history m identity id task sound is))
answer_own setup history m identity (ShowEndpoint collection) now sound = tt
answer_own setup history m identity (ListAccess collection) now sound =
    as_owner_own setup m identity (is_owner setup identity collection) (Say (access_list_reply m collection)) (rules_own setup m identity collection)
answer_own setup history m identity (AddAccess collection spec) now sound =
    as_owner_own setup m identity (is_owner setup identity collection) (add_access_answer m collection spec now)
    (λ owns. add_own setup m identity (refusing Exists) _ (list_any (is_same_rule collection spec) m.access) tt
    (add_own setup m identity (doing m now (AccessAdd collection spec) (AccessCreated (next_rule m.access))) (refusing LimitReached) (has_room m.access) tt tt))
answer_own setup history m identity (ShowAccess collection id) now sound =
    on_rule_own setup m identity (is_owner setup identity collection) (rule_named setup m collection id) (λ row. Say (access_reply row))
    (λ owns row is. rule_own setup m identity collection row owns (rule_place setup m collection id row is))
answer_own setup history m identity (EndAccess collection id) now sound =
    on_rule_own setup m identity (is_owner setup identity collection) (rule_named setup m collection id) (end_access_answer m now) (λ owns row is. tt)
answer_own setup history m identity (ReplaceAccess collection id write) now sound =
    on_rule_own setup m identity (is_owner setup identity collection) (rule_named setup m collection id) (replace_access_answer m write now)
    (λ owns row is. add_own setup m identity (doing m now (AccessReplace row.number write) (Done Updated)) (refusing LimitReached) (has_room m.access) tt tt)
answer_own setup history m identity ListPauses now sound = tt
answer_own setup history m identity (AddPause spec) now sound = tt
answer_own setup history m identity (ShowPause rule) now sound = tt
answer_own setup history m identity (EndPause rule) now sound = tt
