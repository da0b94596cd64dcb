-- The event that a request makes has a step and a record.
use Rattle.std.proofs.Common.{◌≡◌, ◌<◌, ◌≤◌, ℕ, ◌+◌, ◌^◌, List, length, max, Bool, true, false, Option, Some, None, refl, arith, rules, if◌then◌else◌}
use Rattle.std.specs.Prelude.{IsTrue, is_none, nat_lt, not, ◌&&◌}
use Rattle.std.specs.List.{list_any}
use Rattle.std.specs.Option.{option_map_or}
use Rattle.gt_access.specs.Rule.{added_access, ended_access, is_same_rule, next_rule, replaced_access}
use Rattle.gt_access.specs.declared.row.AccessRow.{AccessRow}
use Rattle.gt_machine.specs.Answer.{HasStep, answer_of}
use Rattle.gt_machine.specs.Decision.{doing, event_at, refusing}
use Rattle.gt_machine.specs.MachineState.{MachineState}
use Rattle.gt_machine.specs.Named.{rule_named, task_named}
use Rattle.gt_machine.specs.RuleAnswer.{access_reply, add_access_answer, as_owner, end_access_answer, replace_access_answer}
use Rattle.gt_machine.specs.RuleSteps.{has_room, replaced_spec}
use Rattle.gt_machine.specs.Sound.{IsSound}
use Rattle.gt_machine.specs.Step.{counted_state}
use Rattle.gt_machine.specs.TaskAnswer.{skipped_reply, submitted, successes_reply, task_reply}
use Rattle.gt_machine.specs.TaskSteps.{can_issue, is_full}
use Rattle.gt_tasks.specs.Tasks.{number_of}
use Rattle.gt_tasks.specs.declared.row.TaskRow.{TaskRow}
use Rattle.gt_machine.specs.declared.decision.Decision.{Decision}
use Rattle.gt_machine.specs.declared.decision.Decision.TheVariants.{Say}
use Rattle.gt_machine.proofs.Effects.{first_holds, second_holds}
use Rattle.gt_machine.proofs.NamedLemmas.{RulePlace, all_at, rule_place}
use Rattle.gt_machine.proofs.StepLemmas.{both_hold, comes, only_if_some, step_there}
use Rattle.gt_setup.specs.Setup.{Setup, has_identity, is_owner}
use Rattle.gt_types.specs.Command.{is_command}
use Rattle.gt_types.specs.Event.{is_recordable, recordable_collections}
use Rattle.gt_types.specs.SpecForms.{is_access_spec, is_transfer_spec}
use Rattle.gt_types.specs.declared.command.Command.{Command}
use Rattle.gt_types.specs.declared.command.Command.TheVariants.{AddAccess, EndAccess, IssueId, ListAccess, ListSkipped, ListSuccesses, ListTasks, ReplaceAccess, ShowAccess, ShowEndpoint, ShowTask, SubmitTransfer as AskTransfer}
use Rattle.gt_types.specs.declared.event.Event.{Event}
use Rattle.gt_types.specs.declared.event.Happening.TheVariants.{AccessAdd, AccessEnd, AccessReplace, Issue, SubmitTransfer}
use Rattle.gt_types.specs.declared.reply.Reply.{Reply}
use Rattle.gt_types.specs.declared.reply.Reply.TheVariants.{AccessCreated, Done, Identifier}
use Rattle.gt_types.specs.declared.reply.ReplyCode.TheVariants.{Exists, LimitReached, PermissionDenied, RuleNotFound, TaskNotFound}
use Rattle.gt_types.specs.declared.reply.ResultCode.TheVariants.{Updated}
use Rattle.gt_types.specs.declared.rule.AccessSpec.{AccessSpec}
use Rattle.gt_types.specs.declared.spec.TransferSpec.{TransferSpec}
use Rattle.gt_values.specs.Forms.{is_id, is_moment, is_u64}

-- the moment of an event is one, where the call's and the greatest are
moment_is : (now greatest : ℕ) → is_moment now ≡ true → is_moment greatest ≡ true → is_moment (max now greatest) ≡ true
moment_is now greatest a b = grind (arith, rules, a, b)

issue_steps : (setup : Setup) (m : MachineState) (identity : List ℕ) (now : ℕ) (can : Bool) → can_issue m ≡ can → is_moment m.greatest ≡ true
    → has_identity setup identity ≡ true → is_id identity ≡ true → is_moment now ≡ true
    → HasStep setup m (if can then doing m now (Issue identity) (Identifier (m.issued + 1)) else refusing LimitReached)
issue_steps setup m identity now false e greatest known id moment = tt
issue_steps setup m identity now true e greatest known id moment =
    let event = event_at m now (Issue identity) in
    let form : is_recordable (length setup.collections) event ≡ true =
    both_hold _ _ (both_hold _ true (moment_is now m.greatest moment greatest) refl) id in (
      step_there setup m event (comes setup m event (omega arith) form known)
          (only_if_some (counted_state (m.events + 1) (max now m.greatest)) (can_issue m) (record m { issued = m.issued + 1 }) e),
      both_hold _ _ (both_hold _ true (moment_is now m.greatest moment greatest) refl) id,
    )

submit_steps : (setup : Setup) (m : MachineState) (identity submission : List ℕ) (spec : TransferSpec) (now : ℕ) (o : Option ℕ) (full : Bool)
    → number_of identity submission m.tasks ≡ o → is_full m (length spec.entries) ≡ full → is_moment m.greatest ≡ true
    → has_identity setup identity ≡ true → is_id identity ≡ true → is_moment now ≡ true → length setup.collections < 2 ^ 32
    → is_id submission ≡ true → nat_lt spec.source (length setup.collections) ≡ true → nat_lt spec.destination (length setup.collections) ≡ true
    → is_transfer_spec spec ≡ true
    → HasStep setup m (option_map_or (λ task. Say (submitted false submission task)) o
    (if full then refusing LimitReached else doing m now (SubmitTransfer identity submission spec) (submitted true submission (length m.tasks + 1))))
submit_steps setup m identity submission spec now (Some n) full found room greatest known id moment few sid source destination form = tt
submit_steps setup m identity submission spec now None true found room greatest known id moment few sid source destination form = tt
submit_steps setup m identity submission spec now None false found room greatest known id moment few sid source destination form =
    let event = event_at m now (SubmitTransfer identity submission spec) in
    let when = moment_is now m.greatest moment greatest in
    let values = both_hold (is_id identity && is_id submission) (is_transfer_spec spec) (both_hold _ _ id sid) form in
    let fits = both_hold _ _ (both_hold _ _ when (both_hold _ _ source destination)) values in
    let wide : nat_lt spec.source recordable_collections ≡ true = grind (arith, rules, source, few) in
    let broad : nat_lt spec.destination recordable_collections ≡ true = grind (arith, rules, destination, few) in
    let free : (is_none (number_of identity submission m.tasks) && not (is_full m (length spec.entries))) ≡ true = rw (found, room) refl in (
      step_there setup m event (comes setup m event (omega arith) fits known) (only_if_some (counted_state (m.events + 1) (max now m.greatest)) _ _ free),
      both_hold _ _ (both_hold _ _ when (both_hold _ _ wide broad)) values,
    )

-- what only says has no event
on_task_steps : (setup : Setup) (m : MachineState) (o : Option TaskRow) (reply : TaskRow → Reply)
    → HasStep setup m (option_map_or (λ task. Say (reply task)) o (refusing TaskNotFound))
on_task_steps setup m None reply = tt
on_task_steps setup m (Some task) reply = tt

-- what is decided for an owner, and of a rule
as_owner_steps : (setup : Setup) (m : MachineState) (owns : Bool) (decision : Decision Reply) → HasStep setup m decision
    → HasStep setup m (if owns then decision else refusing PermissionDenied)
as_owner_steps setup m true decision steps = steps
as_owner_steps setup m false decision steps = tt

on_rule_steps : (setup : Setup) (m : MachineState) (identity : List ℕ) (collection : ℕ) (o : Option AccessRow) (decide : AccessRow → Decision Reply)
    → ((row : AccessRow) → o ≡ Some row → HasStep setup m (decide row))
    → HasStep setup m (as_owner setup identity collection (option_map_or decide o (refusing RuleNotFound)))
on_rule_steps setup m identity collection None decide each = as_owner_steps setup m (is_owner setup identity collection) (refusing RuleNotFound) tt
on_rule_steps setup m identity collection (Some row) decide each = as_owner_steps setup m (is_owner setup identity collection) (decide row) (each row refl)

add_steps : (setup : Setup) (m : MachineState) (collection : ℕ) (spec : AccessSpec) (now : ℕ) (same room : Bool)
    → list_any (is_same_rule collection spec) m.access ≡ same → has_room m.access ≡ room → is_moment m.greatest ≡ true → is_moment now ≡ true
    → length setup.collections < 2 ^ 32 → nat_lt collection (length setup.collections) ≡ true → is_access_spec spec ≡ true
    → HasStep setup m (if same then refusing Exists
    else if room then doing m now (AccessAdd collection spec) (AccessCreated (next_rule m.access)) else refusing LimitReached)
add_steps setup m collection spec now true room is_same is_room greatest moment few known form = tt
add_steps setup m collection spec now false false is_same is_room greatest moment few known form = tt
add_steps setup m collection spec now false true is_same is_room greatest moment few known form =
    let event = event_at m now (AccessAdd collection spec) in
    let when = moment_is now m.greatest moment greatest in
    let wide : nat_lt collection recordable_collections ≡ true = grind (arith, rules, known, few) in
    let free : (has_room m.access && not (list_any (is_same_rule collection spec) m.access)) ≡ true = rw (is_room, is_same) refl in (
      step_there setup m event (comes setup m event (omega arith) (both_hold _ _ (both_hold _ _ when known) form) refl)
          (only_if_some (counted_state (m.events + 1) (max now m.greatest)) _ (record m { access = added_access (m.events + 1) collection spec m.access }) free),
      both_hold _ _ (both_hold _ _ when wide) form,
    )

-- a number of 8 bytes
number_fits : (n : ℕ) → n ≤ 10000 → is_u64 n ≡ true
number_fits n low = grind (arith, rules, low)

end_steps : (setup : Setup) (m : MachineState) (collection : ℕ) (row : AccessRow) (now : ℕ) → RulePlace m collection row → row.number ≤ 10000
    → is_moment m.greatest ≡ true → is_moment now ≡ true → HasStep setup m (end_access_answer m now row)
end_steps setup m collection row now at low greatest moment =
    let event = event_at m now (AccessEnd row.number) in
    let when = moment_is now m.greatest moment greatest in
    let form : (is_moment (max now m.greatest) && true && is_u64 row.number) ≡ true = both_hold _ _ (both_hold _ true when refl) (number_fits row.number low) in (
      step_there setup m event (comes setup m event (omega arith) form refl)
          (only_if_some (counted_state (m.events + 1) (max now m.greatest)) _ (record m { access = ended_access (m.events + 1) row.number m.access }) (rw (at.live) refl)),
      form,
    )

replace_steps : (setup : Setup) (m : MachineState) (collection : ℕ) (row : AccessRow) (write : Bool) (now : ℕ) (room : Bool) → has_room m.access ≡ room
    → RulePlace m collection row → row.number ≤ 10000 → is_moment m.greatest ≡ true → is_moment now ≡ true
    → HasStep setup m (if room then doing m now (AccessReplace row.number write) (Done Updated) else refusing LimitReached)
replace_steps setup m collection row write now false is_room at low greatest moment = tt
replace_steps setup m collection row write now true is_room at low greatest moment =
    let event = event_at m now (AccessReplace row.number write) in
    let when = moment_is now m.greatest moment greatest in
    let form : (is_moment (max now m.greatest) && true && is_u64 row.number) ≡ true = both_hold _ _ (both_hold _ true when refl) (number_fits row.number low) in (
      step_there setup m event (comes setup m event (omega arith) form refl)
          (rw (at.live) (only_if_some (counted_state (m.events + 1) (max now m.greatest)) (has_room m.access)
          (record m { access = replaced_access (m.events + 1) (replaced_spec write row) row m.access }) is_room)),
      form,
    )

-- a rule that stands in the table has a number within its limit
low_number : (setup : Setup) (history : List Event) (m : MachineState) (collection : ℕ) (row : AccessRow) → IsSound setup history m → RulePlace m collection row
    → row.number ≤ 10000
low_number setup history m collection row sound at =
    let low : row.number ≤ length m.access = all_at (λ (r : AccessRow). r.number ≤ length m.access) m.access at.place row sound.rule_lives.access_within at.at in
    omega (arith, low, sound.within_limits.access)

pub answer_steps : (setup : Setup) (history : List Event) (m : MachineState) (identity : List ℕ) (command : Command) (now : ℕ) → IsSound setup history m
    → IsTrue (has_identity setup identity) → is_id identity ≡ true → is_moment now ≡ true → length setup.collections < 2 ^ 32
    → IsTrue (is_command (length setup.collections) command) → HasStep setup m (answer_of setup m identity command now)
answer_steps setup history m identity IssueId now sound known id moment few within =
    issue_steps setup m identity now (can_issue m) refl sound.within_limits.greatest known id moment
answer_steps setup history m identity (AskTransfer submission spec) now sound known id moment few within =
    let both = first_holds _ (is_transfer_spec spec) within in
    let ids = first_holds _ (nat_lt spec.destination (length setup.collections)) both in
    submit_steps setup m identity submission spec now (number_of identity submission m.tasks) (is_full m (length spec.entries)) refl refl sound.within_limits.greatest known id moment few
    (first_holds (is_id submission) _ ids) (second_holds (is_id submission) _ ids) (second_holds _ (nat_lt spec.destination (length setup.collections)) both)
    (second_holds _ (is_transfer_spec spec) within)
answer_steps setup history m identity (ListTasks limit offset) now sound known id moment few within = tt
answer_steps setup history m identity (ShowTask task) now sound known id moment few within = on_task_steps setup m (task_named setup m identity task) (task_reply m)
answer_steps setup history m identity (ListSuccesses task limit offset) now sound known id moment few within =
    on_task_steps setup m (task_named setup m identity task) (successes_reply m limit offset)
answer_steps setup history m identity (ListSkipped task limit offset) now sound known id moment few within =
    on_task_steps setup m (task_named setup m identity task) (skipped_reply m limit offset)
answer_steps setup history m identity (ShowEndpoint collection) now sound known id moment few within = tt
answer_steps setup history m identity (ListAccess collection) now sound known id moment few within =
    as_owner_steps setup m (is_owner setup identity collection) (Say _) tt
answer_steps setup history m identity (AddAccess collection spec) now sound known id moment few within =
    as_owner_steps setup m (is_owner setup identity collection) (add_access_answer m collection spec now)
    (add_steps setup m collection spec now (list_any (is_same_rule collection spec) m.access) (has_room m.access) refl refl sound.within_limits.greatest moment few
    (first_holds _ (is_access_spec spec) within) (second_holds (nat_lt collection (length setup.collections)) _ within))
answer_steps setup history m identity (ShowAccess collection rule) now sound known id moment few within =
    on_rule_steps setup m identity collection (rule_named setup m collection rule) (λ row. Say (access_reply row)) (λ row is. tt)
answer_steps setup history m identity (EndAccess collection rule) now sound known id moment few within =
    on_rule_steps setup m identity collection (rule_named setup m collection rule) (end_access_answer m now)
    (λ row is. let at = rule_place setup m collection rule row is in
    end_steps setup m collection row now at (low_number setup history m collection row sound at) sound.within_limits.greatest moment)
answer_steps setup history m identity (ReplaceAccess collection rule write) now sound known id moment few within =
    on_rule_steps setup m identity collection (rule_named setup m collection rule) (replace_access_answer m write now)
    (λ row is. let at = rule_place setup m collection rule row is in
    replace_steps setup m collection row write now (has_room m.access) refl at (low_number setup history m collection row sound at) sound.within_limits.greatest moment)
answer_steps setup history m identity _ now sound known id moment few within = absurd (cc)
