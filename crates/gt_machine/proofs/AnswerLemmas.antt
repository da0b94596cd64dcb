-- What is decided can be printed: identifiers are made of numbers within the limits of rows, and collections are the setup's.
use Rattle.std.proofs.Common.{◌≡◌, ◌≤◌, ◌<◌, ℕ, ◌+◌, ◌-◌, ◌^◌, List, length, map, All, Bool, true, false, Option, Some, None, refl, arith, rules, if◌then◌else◌, get_or}
use Rattle.std.specs.List.{list_all, list_any}
use Rattle.std.specs.Prelude.{IsTrue, filter, find, nat_lt, slice_get, ◌&&◌, ◌==◌}
use Rattle.std.specs.Option.{option_map, option_map_or}
use Rattle.std.specs.Str.{bytes_eq}
use Rattle.std.proofs.lemmas.List.Elements.{All-filter, All-map}
use Rattle.std.proofs.lemmas.List.Sums.{list_all-from_AllPass}
use Rattle.std.proofs.lemmas.Option.{slice_get_within, slice_get-get_or}
use Rattle.gt_access.specs.Rule.{is_live_access, is_same_rule, next_rule}
use Rattle.gt_access.specs.declared.row.AccessRow.{AccessRow}
use Rattle.gt_machine.specs.Answer.{answer_of}
use Rattle.gt_machine.specs.Decision.{doing, refusing, said}
use Rattle.gt_machine.specs.Document.{access_document, access_rules, task_document, tasks_of}
use Rattle.gt_machine.specs.Lists.{page_of}
use Rattle.gt_machine.specs.MachineState.{MachineState}
use Rattle.gt_machine.specs.Named.{rule_named, task_named}
use Rattle.gt_machine.specs.RuleAnswer.{access_list_reply, access_reply, add_access_answer, as_owner, end_access_answer, replace_access_answer}
use Rattle.gt_machine.specs.RuleSteps.{has_room}
use Rattle.gt_machine.specs.Sound.{IsSound}
use Rattle.gt_machine.specs.SoundRows.{IsNumbered}
use Rattle.gt_machine.specs.SoundValues.{IsTaskOfSetup}
use Rattle.gt_machine.specs.TaskAnswer.{skipped_reply, submitted, successes_reply, task_reply, tasks_reply}
use Rattle.gt_machine.specs.TaskSteps.{can_issue, is_full}
use Rattle.gt_machine.specs.declared.decision.Decision.{Decision}
use Rattle.gt_machine.specs.declared.decision.Decision.TheVariants.{Say}
use Rattle.gt_machine.proofs.ListLemmas.{All-page, All-sorted}
use Rattle.gt_machine.proofs.NamedLemmas.{RulePlace, all_at, rule_place, task_place}
use Rattle.gt_machine.proofs.OneLive.{found_at}
use Rattle.gt_machine.proofs.RuleNumbers.{next_within}
use Rattle.gt_machine.proofs.StepLemmas.{both_hold}
use Rattle.gt_setup.specs.Setup.{Setup, is_owner}
use Rattle.gt_tasks.specs.Tasks.{is_of, number_of}
use Rattle.gt_tasks.specs.declared.row.TaskRow.{TaskRow}
use Rattle.gt_types.specs.Command.{is_command}
use Rattle.gt_types.specs.Reply.{are_known, is_number, is_printable, is_printable_access, is_printable_task}
use Rattle.gt_types.specs.SpecParts.{destination_of, options_of, source_of}
use Rattle.gt_types.specs.declared.command.Command.{Command}
use Rattle.gt_types.specs.declared.command.Command.TheVariants.{AddAccess, EndAccess, IssueId, ListAccess, ListSkipped, ListSuccesses, ListTasks, ReplaceAccess, ShowAccess, ShowEndpoint, ShowTask, SubmitTransfer as AskTransfer}
use Rattle.gt_types.specs.declared.event.Event.{Event}
use Rattle.gt_types.specs.declared.event.Happening.TheVariants.{Issue, SubmitTransfer}
use Rattle.gt_types.specs.declared.reply.Reply.{Reply}
use Rattle.gt_types.specs.declared.reply.Reply.TheVariants.{Identifier}
use Rattle.gt_types.specs.declared.reply.ReplyCode.TheVariants.{Exists, LimitReached, PermissionDenied, RuleNotFound, TaskNotFound}
use Rattle.gt_types.specs.declared.spec.Spec.{Spec}
use Rattle.gt_types.specs.declared.spec.Spec.TheVariants.{Delete as OfDelete, Transfer as OfTransfer}
use Rattle.gt_types.specs.declared.spec.TransferSpec.{TransferSpec}

-- what is said can be printed
abbrev pub Printable : Setup → Decision Reply → Type 0
Printable setup decision = IsTrue (is_printable (length setup.collections) (said decision))

-- a task that is found has a number of the list
number_within : (owner submission : List ℕ) (rows : List TaskRow) (n : ℕ) → IsNumbered (λ (task : TaskRow). task.number) rows → number_of owner submission rows ≡ Some n → n ≤ length rows
number_within owner submission rows n numbered is = by_cases (find (is_of owner submission) rows) refl is
  where
    by_cases : (o : Option TaskRow) → find (is_of owner submission) rows ≡ o → option_map (λ (row : TaskRow). row.number) o ≡ Some n → n ≤ length rows
    by_cases None e found = absurd (cc)
    by_cases (Some row) e found =
        let place = found_at (is_of owner submission) rows row e in
        let same : row.number ≡ n = cc in
        omega (arith, same, numbered place.0 row place.1, slice_get_within rows place.0 row place.1)

-- the reply to a submission, by what the tables hold
submit_printable : (setup : Setup) (m : MachineState) (owner submission : List ℕ) (spec : TransferSpec) (now : ℕ) (o : Option ℕ) (full : Bool)
    → ((n : ℕ) → o ≡ Some n → n ≤ 100000) → (full ≡ false → length m.tasks < 100000)
    → Printable setup (option_map_or (λ task. Say (submitted false submission task)) o
    (if full then refusing LimitReached else doing m now (SubmitTransfer owner submission spec) (submitted true submission (length m.tasks + 1))))
submit_printable setup m owner submission spec now (Some n) full found room = let below : n ≤ 100000 = found n refl in grind (arith, rules, below)
submit_printable setup m owner submission spec now None true found room = grind rules
submit_printable setup m owner submission spec now None false found room = let below : length m.tasks < 100000 = room refl in grind (arith, rules, below)

issue_printable : (setup : Setup) (m : MachineState) (identity : List ℕ) (now : ℕ) (can : Bool) → (can ≡ true → m.issued < 2 ^ 48 - 1)
    → Printable setup (if can then doing m now (Issue identity) (Identifier (m.issued + 1)) else refusing LimitReached)
issue_printable setup m identity now true below = let lower : m.issued < 2 ^ 48 - 1 = below refl in grind (arith, rules, lower)
issue_printable setup m identity now false below = grind rules

-- a number of rows is one of 6 bytes
small : (n : ℕ) → n ≤ 100000 → is_number n ≡ true
small n low = grind (arith, rules, low)

known_collections : (count : ℕ) (spec : Spec) → source_of spec < count → destination_of spec < count → are_known count (options_of spec) ≡ true
known_collections count (OfTransfer spec) source destination = grind (arith, rules, source, destination)
known_collections count (OfDelete spec) source destination = grind (arith, rules, source)

-- the document of each task
task_printable : (setup : Setup) (history : List Event) (m : MachineState) (i : ℕ) (task : TaskRow) → IsSound setup history m → slice_get m.tasks i ≡ Some task
    → is_printable_task (length setup.collections) (task_document m task) ≡ true
task_printable setup history m i task sound at =
    let within = slice_get_within m.tasks i task at in
    let number : task.number ≡ i + 1 = sound.numbered.tasks i task at in
    let of_setup : IsTaskOfSetup setup task = all_at (IsTaskOfSetup setup) m.tasks i task sound.of_setup.tasks at in
    both_hold (is_number task.number) (are_known (length setup.collections) (options_of task.spec))
    (small task.number (omega (arith, number, within, sound.within_limits.tasks)))
    (known_collections (length setup.collections) task.spec of_setup.source of_setup.destination)

tasks_printable : (setup : Setup) (history : List Event) (m : MachineState) (identity : List ℕ) (limit offset : ℕ) → IsSound setup history m
    → IsTrue (is_printable (length setup.collections) (tasks_reply m identity limit offset))
tasks_printable setup history m identity limit offset sound =
    list_all-from_AllPass (is_printable_task (length setup.collections)) (map (task_document m) (page_of limit offset (tasks_of identity m)))
    (All-map (λ t. is_printable_task (length setup.collections) t ≡ true) (task_document m) (page_of limit offset (tasks_of identity m))
    (All-page Shown limit offset (tasks_of identity m) (All-filter (λ task. bytes_eq task.owner identity) Shown m.tasks each)))
  where
    Shown : TaskRow → Type 0
    Shown task = is_printable_task (length setup.collections) (task_document m task) ≡ true

    each : All Shown m.tasks
    each i d within = task_printable setup history m i (get_or m.tasks i d) sound (slice_get-get_or m.tasks i d within)

-- what is said of a task, where it is found
on_task_printable : (setup : Setup) (o : Option TaskRow) (reply : TaskRow → Reply)
    → ((task : TaskRow) → o ≡ Some task → IsTrue (is_printable (length setup.collections) (reply task)))
    → Printable setup (option_map_or (λ task. Say (reply task)) o (refusing TaskNotFound))
on_task_printable setup None reply each = refl
on_task_printable setup (Some task) reply each = each task refl

-- each rule's number, and the next one
rule_printable : (setup : Setup) (history : List Event) (m : MachineState) (i : ℕ) (row : AccessRow) → IsSound setup history m → slice_get m.access i ≡ Some row
    → is_printable_access (access_document row) ≡ true
rule_printable setup history m i row sound at =
    let low : row.number ≤ length m.access = all_at (λ (r : AccessRow). r.number ≤ length m.access) m.access i row sound.rule_lives.access_within at in
    small row.number (omega (arith, low, sound.within_limits.access))

next_printable : (setup : Setup) (history : List Event) (m : MachineState) → IsSound setup history m → is_number (next_rule m.access) ≡ true
next_printable setup history m sound =
    let low = next_within m.access sound.rule_lives.access_within in small (next_rule m.access) (omega (arith, low, sound.within_limits.access))

rules_printable : (setup : Setup) (history : List Event) (m : MachineState) (collection : ℕ) → IsSound setup history m → nat_lt collection (length setup.collections) ≡ true
    → IsTrue (is_printable (length setup.collections) (access_list_reply m collection))
rules_printable setup history m collection sound known =
    both_hold (list_all is_printable_access (map access_document (access_rules m collection))) _
    (list_all-from_AllPass is_printable_access (map access_document (access_rules m collection))
    (All-map (λ r. is_printable_access r ≡ true) access_document (access_rules m collection) (All-sorted Shown (λ row. row.number) (filter kept m.access) (All-filter kept Shown m.access each)))) known
  where
    Shown : AccessRow → Type 0
    Shown row = is_printable_access (access_document row) ≡ true

    kept : AccessRow → Bool
    kept row = is_live_access row && (row.collection == collection)

    each : All Shown m.access
    each i d within = rule_printable setup history m i (get_or m.access i d) sound (slice_get-get_or m.access i d within)

-- what is decided for an owner, and of a rule
as_owner_printable : (setup : Setup) (owns : Bool) (decision : Decision Reply) → Printable setup decision → Printable setup (if owns then decision else refusing PermissionDenied)
as_owner_printable setup true decision good = good
as_owner_printable setup false decision good = refl

on_rule_printable : (setup : Setup) (identity : List ℕ) (collection : ℕ) (o : Option AccessRow) (decide : AccessRow → Decision Reply)
    → ((row : AccessRow) → o ≡ Some row → Printable setup (decide row))
    → Printable setup (as_owner setup identity collection (option_map_or decide o (refusing RuleNotFound)))
on_rule_printable setup identity collection None decide each = as_owner_printable setup (is_owner setup identity collection) (refusing RuleNotFound) refl
on_rule_printable setup identity collection (Some row) decide each = as_owner_printable setup (is_owner setup identity collection) (decide row) (each row refl)

add_printable : (setup : Setup) (made : Decision Reply) (same room : Bool) → Printable setup made
    → Printable setup (if same then refusing Exists else if room then made else refusing LimitReached)
add_printable setup made true room good = refl
add_printable setup made false true good = good
add_printable setup made false false good = refl

replace_printable : (setup : Setup) (m : MachineState) (write : Bool) (now : ℕ) (row : AccessRow) (room : Bool) → has_room m.access ≡ room
    → Printable setup (replace_access_answer m write now row)
replace_printable setup m write now row true is = rw is refl
replace_printable setup m write now row false is = rw is refl

pub answer_printable : (setup : Setup) (history : List Event) (m : MachineState) (identity : List ℕ) (command : Command) (now : ℕ) → IsSound setup history m
    → IsTrue (is_command (length setup.collections) command) → Printable setup (answer_of setup m identity command now)
answer_printable setup history m identity IssueId now sound within =
    issue_printable setup m identity now (can_issue m) (λ can. grind (arith, rules, can))
answer_printable setup history m identity (AskTransfer submission spec) now sound within =
    submit_printable setup m identity submission spec now (number_of identity submission m.tasks) (is_full m (length spec.entries))
    (λ n is. omega (arith, number_within identity submission m.tasks n sound.numbered.tasks is, sound.within_limits.tasks))
    (λ room. grind (arith, rules, room))
answer_printable setup history m identity (ListTasks limit offset) now sound within = tasks_printable setup history m identity limit offset sound
answer_printable setup history m identity (ShowTask id) now sound within =
    on_task_printable setup (task_named setup m identity id) (task_reply m)
    (λ task is. let found = task_place setup m identity id task is in task_printable setup history m found.0 task sound found.1)
answer_printable setup history m identity (ListSuccesses id limit offset) now sound within =
    on_task_printable setup (task_named setup m identity id) (successes_reply m limit offset) (λ task is. refl)
answer_printable setup history m identity (ListSkipped id limit offset) now sound within =
    on_task_printable setup (task_named setup m identity id) (skipped_reply m limit offset) (λ task is. refl)
answer_printable setup history m identity (ShowEndpoint collection) now sound within = within
answer_printable setup history m identity (ListAccess collection) now sound within =
    as_owner_printable setup (is_owner setup identity collection) (Say (access_list_reply m collection)) (rules_printable setup history m collection sound within)
answer_printable setup history m identity (AddAccess collection spec) now sound within =
    as_owner_printable setup (is_owner setup identity collection) (add_access_answer m collection spec now)
    (add_printable setup _ (list_any (is_same_rule collection spec) m.access) (has_room m.access) (next_printable setup history m sound))
answer_printable setup history m identity (ShowAccess collection id) now sound within =
    on_rule_printable setup identity collection (rule_named setup m collection id) (λ row. Say (access_reply row))
    (λ row is. let found : RulePlace m collection row = rule_place setup m collection id row is in rule_printable setup history m found.place row sound found.at)
answer_printable setup history m identity (EndAccess collection id) now sound within =
    on_rule_printable setup identity collection (rule_named setup m collection id) (end_access_answer m now) (λ row is. refl)
answer_printable setup history m identity (ReplaceAccess collection id write) now sound within =
    on_rule_printable setup identity collection (rule_named setup m collection id) (replace_access_answer m write now)
    (λ row is. replace_printable setup m write now row (has_room m.access) refl)
answer_printable setup history m identity _ now sound within = absurd (cc)
