-- The task that a submission made, and the machine after it.
use Rattle.std.proofs.lemmas.Slice.Eq.{bytes_eq-Decides}
use Rattle.std.specs.Str.{bytes_eq}
use Rattle.std.proofs.Common.{◌≡◌, ℕ, zero, suc, ◌+◌, ◌&&◌, List, [], ◌∷◌, ◌++◌, Option, None, Some, Bool, true, false, length, refl, sym, ap, subst, ◌∙◌, if◌then◌else◌}
use Rattle.std.specs.Option.{option_map, option_map_or}
use Rattle.std.specs.Prelude.{find, is_none, not, option_and_then, slice_get}
use Rattle.gt_desk.specs.Calls.{IsOnlyTask}
use Rattle.gt_machine.specs.Answer.{answer_of}
use Rattle.gt_machine.specs.Decision.{doing, event_at, events_in, refusing, said}
use Rattle.gt_machine.specs.MachineState.{MachineState}
use Rattle.gt_machine.specs.RuleSteps.{only_if}
use Rattle.gt_machine.specs.Run.{run_from}
use Rattle.gt_machine.specs.SoundRows.{HasOneTaskEach}
use Rattle.gt_machine.specs.Step.{counted_state, may_come, step_of}
use Rattle.gt_machine.specs.TaskAnswer.{submitted}
use Rattle.gt_machine.specs.TaskSteps.{is_full, new_task, with_task}
use Rattle.gt_tasks.specs.Tasks.{is_of, number_of}
use Rattle.gt_machine.specs.declared.decision.Decision.{Decision}
use Rattle.gt_machine.specs.declared.decision.Decision.TheVariants.{Say}
use Rattle.gt_tasks.specs.declared.row.TaskRow.{TaskRow}
use Rattle.gt_setup.specs.Setup.{Setup}
use Rattle.gt_types.specs.SpecParts.{entry_count}
use Rattle.gt_types.specs.declared.event.Event.{Event}
use Rattle.gt_types.specs.declared.event.Happening.TheVariants.{SubmitTransfer}
use Rattle.gt_types.specs.declared.command.Command.TheVariants.{SubmitTransfer as AskTransfer}
use Rattle.gt_types.specs.declared.reply.Reply.{Reply}
use Rattle.gt_types.specs.declared.reply.Reply.TheVariants.{Submitted}
use Rattle.gt_types.specs.declared.reply.ReplyCode.TheVariants.{LimitReached}
use Rattle.gt_types.specs.declared.spec.Spec.TheVariants.{Transfer as OfTransfer}
use Rattle.gt_types.specs.declared.spec.TransferSpec.{TransferSpec}

-- the tasks after a submission's event
submitted_tasks : (setup : Setup) (m last : MachineState) (moment : ℕ) (owner submission : List ℕ) (spec : TransferSpec)
    → step_of setup m (record { moment = moment; what = SubmitTransfer owner submission spec }) ≡ Some last
    → last.tasks ≡ m.tasks ++ new_task (length m.tasks + 1) moment owner submission (OfTransfer spec) ∷ []
submitted_tasks setup m last moment owner submission spec is =
    by_tests (may_come setup m (record { moment = moment; what = SubmitTransfer owner submission spec }))
    (is_none (number_of owner submission m.tasks) && not (is_full m (entry_count (OfTransfer spec)))) is
  where
    by_tests : (may allowed : Bool)
        → (if may then option_map (counted_state (m.events + 1) moment) (only_if allowed (with_task moment owner submission (OfTransfer spec) m)) else None) ≡ Some last
        → last.tasks ≡ m.tasks ++ new_task (length m.tasks + 1) moment owner submission (OfTransfer spec) ∷ []
    by_tests true true e =
        let same : counted_state (m.events + 1) moment (with_task moment owner submission (OfTransfer spec) m) ≡ last = cc in
        ap (λ (s : MachineState). s.tasks) (sym same)
    by_tests true false e = absurd (cc)
    by_tests false allowed e = absurd (cc)

found_place : {X : Type 0} (p : X → Bool) (xs : List X) (x : X) → find p xs ≡ Some x → (i : ℕ) × (slice_get xs i ≡ Some x) × (p x ≡ true)
found_place p [] x is = absurd (cc)
found_place p (first ∷ xs) x is = by_test (p first) refl (λ later. found_place p xs x later) is
  where
    by_test : (b : Bool) → p first ≡ b → (find p xs ≡ Some x → (i : ℕ) × (slice_get xs i ≡ Some x) × (p x ≡ true)) → (if b then Some first else find p xs) ≡ Some x → (i : ℕ) × (slice_get (first ∷ xs) i ≡ Some x) × (p x ≡ true)
    by_test true e go got = let same : first ≡ x = cc in (zero, ap (λ y. Some y) same, subst (λ y. p y ≡ true) same e)
    by_test false e go got = let later = go got in (suc later.0, later.1, later.2)

find_last : {X : Type 0} (p : X → Bool) (xs : List X) (x : X) → find p xs ≡ None → p x ≡ true → find p (xs ++ x ∷ []) ≡ Some x
find_last p [] x absent is = ap (λ (b : Bool). if b then Some x else None) is
find_last p (first ∷ xs) x absent is = by_test (p first) (λ none. find_last p xs x none is) absent
  where
    by_test : (b : Bool) → (find p xs ≡ None → find p (xs ++ x ∷ []) ≡ Some x) → (if b then Some first else find p xs) ≡ None → (if b then Some first else find p (xs ++ x ∷ [])) ≡ Some x
    by_test true go none = absurd (cc)
    by_test false go none = go none

and_both : (a b : Bool) → (a && b) ≡ true → (a ≡ true) × (b ≡ true)
and_both true b is = (refl, is)
and_both false b is = absurd (cc)

both_and : (a b : Bool) → a ≡ true → b ≡ true → (a && b) ≡ true
both_and true b ea eb = eb
both_and false b ea eb = absurd (cc)

no_row : (o : Option TaskRow) → option_map (λ (row : TaskRow). row.number) o ≡ None → o ≡ None
no_row None is = refl
no_row (Some row) is = absurd (cc)

-- the number of a task added behind others, where none was the owner's
number_last : (owner submission : List ℕ) (rows : List TaskRow) (row : TaskRow) → number_of owner submission rows ≡ None → row.owner ≡ owner → row.submission ≡ submission
    → number_of owner submission (rows ++ row ∷ []) ≡ Some row.number
number_last owner submission rows row absent by_owner of_submission =
    ap (λ (o : Option TaskRow). option_map (λ (r : TaskRow). r.number) o)
    (find_last (is_of owner submission) rows row (no_row (find (is_of owner submission) rows) absent)
    (both_and (bytes_eq row.owner owner) (bytes_eq row.submission submission) ((bytes_eq-Decides row.owner owner).1 by_owner) ((bytes_eq-Decides row.submission submission).1 of_submission)))

-- a task that is found is the only one of its owner and identifier
only_task : (owner submission : List ℕ) (tasks : List TaskRow) (number : ℕ) → HasOneTaskEach tasks → number_of owner submission tasks ≡ Some number → IsOnlyTask owner submission number tasks
only_task owner submission tasks number one is = by_find (find (is_of owner submission) tasks) refl is
  where
    by_find : (o : Option TaskRow) → find (is_of owner submission) tasks ≡ o → option_map (λ (row : TaskRow). row.number) o ≡ Some number → IsOnlyTask owner submission number tasks
    by_find None e got = absurd (cc)
    by_find (Some row) e got =
        let place = found_place (is_of owner submission) tasks row e in
        let both = and_both (bytes_eq row.owner owner) (bytes_eq row.submission submission) place.2 in
        let by_owner : row.owner ≡ owner = (bytes_eq-Decides row.owner owner).0 both.0 in
        let of_submission : row.submission ≡ submission = (bytes_eq-Decides row.submission submission).0 both.1 in
        record {
          place = place.0;
          task = row;
          there = place.1;
          by_owner = by_owner;
          of_submission = of_submission;
          numbered = cc;
          only = λ i other at other_owner other_submission. one i place.0 other row at place.1 (other_owner ∙ sym by_owner) (other_submission ∙ sym of_submission);
        }

-- what is decided of a submission, by the task that is found and by whether there is no room
abbrev decided : MachineState → ℕ → List ℕ → List ℕ → TransferSpec → Option ℕ → Bool → Decision Reply
decided m now owner submission spec o full =
    option_map_or (λ task. Say (submitted false submission task)) o
    (if full then refusing LimitReached else doing m now (SubmitTransfer owner submission spec) (submitted true submission (length m.tasks + 1)))

one_step : (setup : Setup) (last : MachineState) (o : Option MachineState) → option_and_then (λ n. run_from setup n []) o ≡ Some last → o ≡ Some last
one_step setup last None is = is
one_step setup last (Some n) is = is

-- after the submission was answered with this task
pub answered_task : (setup : Setup) (owner submission : List ℕ) (spec : TransferSpec) (now : ℕ) (m machine : MachineState) (made : List Event)
    → run_from setup m made ≡ Some machine → HasOneTaskEach machine.tasks
    → (is_delete is_new : Bool) (identifier : List ℕ) (task : ℕ)
    → Submitted is_delete is_new identifier task ≡ said (answer_of setup m owner (AskTransfer submission spec) now)
    → made ≡ events_in (answer_of setup m owner (AskTransfer submission spec) now)
    → IsOnlyTask owner submission task machine.tasks
answered_task setup owner submission spec now m machine made runs one is_delete is_new identifier task reply recorded =
    by_tests (number_of owner submission m.tasks) refl (is_full m (length spec.entries)) reply recorded
  where
    by_tests : (o : Option ℕ) → number_of owner submission m.tasks ≡ o → (full : Bool)
        → Submitted is_delete is_new identifier task ≡ said (decided m now owner submission spec o full) → made ≡ events_in (decided m now owner submission spec o full) → IsOnlyTask owner submission task machine.tasks
    by_tests (Some n) e full said_so none =
        let still : run_from setup m [] ≡ Some machine = subst (λ es. run_from setup m es ≡ Some machine) none runs in
        let same : m ≡ machine = cc in
        let named : n ≡ task = cc in
        only_task owner submission machine.tasks task one (subst (λ s. number_of owner submission s.tasks ≡ Some task) same (e ∙ ap (λ (k : ℕ). Some k) named))
    by_tests None e true said_so none = absurd (cc)
    by_tests None e false said_so event_made =
        let event = event_at m now (SubmitTransfer owner submission spec) in
        let step = one_step setup machine (step_of setup m event) (subst (λ es. run_from setup m es ≡ Some machine) event_made runs) in
        let row = new_task (length m.tasks + 1) event.moment owner submission (OfTransfer spec) in
        let tasks = submitted_tasks setup m machine event.moment owner submission spec step in
        let named : length m.tasks + 1 ≡ task = cc in
        only_task owner submission machine.tasks task one
        (ap (λ (rows : List TaskRow). number_of owner submission rows) tasks ∙ number_last owner submission m.tasks row e refl refl ∙ ap (λ (k : ℕ). Some k) named)
