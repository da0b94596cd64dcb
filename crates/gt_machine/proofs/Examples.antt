-- Computed examples of the definitions: worked histories, events that have no step, and answers.
use Rattle.std.proofs.Common.{◌≡◌, ℕ, List, [], ◌∷◌, length, map, Bool, true, false, Option, Some, None, refl}
use Rattle.std.specs.Prelude.{is_some, option_map}
use Rattle.std.specs.Str.{chars, is_utf8}
use lib.Utf8.{encode}
use Rattle.gt_machine.specs.Answer.{answer_of}
use Rattle.gt_machine.specs.MachineState.{MachineState}
use Rattle.gt_machine.specs.Run.{run_of}
use Rattle.gt_machine.specs.Step.{step_of}
use Rattle.gt_machine.specs.TaskAnswer.{submitted}
use Rattle.gt_machine.specs.TaskLine.{task_lines}
use Rattle.gt_machine.specs.declared.decision.Decision.{Decision}
use Rattle.gt_machine.specs.declared.decision.Decision.TheVariants.{Do, Say}
use Rattle.gt_machine.specs.declared.line.TaskLine.{TaskLine}
use Rattle.gt_setup.specs.Setup.{Setup}
use Rattle.gt_setup.specs.declared.parts.Collection.{Collection}
use Rattle.gt_setup.specs.declared.parts.Identity.{Identity as SetupIdentity}
use Rattle.gt_types.specs.declared.code.Status.TheVariants.{Active}
use Rattle.gt_types.specs.declared.command.Command.TheVariants.{IssueId, SubmitTransfer as AskTransfer}
use Rattle.gt_types.specs.declared.event.Event.{Event}
use Rattle.gt_types.specs.declared.event.Happening.{Happening}
use Rattle.gt_types.specs.declared.event.Happening.TheVariants.{AccessAdd, AccessEnd, AccessReplace, Issue, SubmitTransfer}
use Rattle.gt_types.specs.declared.reply.Counters.{Counters}
use Rattle.gt_types.specs.declared.reply.Reply.{Reply}
use Rattle.gt_types.specs.declared.reply.Reply.TheVariants.{Identifier}
use Rattle.gt_types.specs.declared.rule.AccessSpec.{AccessSpec}
use Rattle.gt_types.specs.declared.rule.Principal.TheVariants.{Anonymous, Identity}
use Rattle.gt_types.specs.declared.spec.TransferEntry.{TransferEntry}
use Rattle.gt_types.specs.declared.spec.TransferSpec.{TransferSpec}

-- an identifier of sixteen bytes, of which the last is this
abbrev pub id : ℕ → List ℕ
id n = 0 ∷ 0 ∷ 0 ∷ 0 ∷ 0 ∷ 0 ∷ 64 ∷ 0 ∷ 128 ∷ 0 ∷ 0 ∷ 0 ∷ 0 ∷ 0 ∷ 0 ∷ n ∷ []

abbrev pub ann : List ℕ
ann = id 161

abbrev pub bob : List ℕ
bob = id 177

abbrev collection : ℕ → List ℕ → Collection
collection n owner = record { id = id n; name = []; owner = owner; home = [] }

abbrev identity : List ℕ → SetupIdentity
identity owner = record { who = record { identity = owner; groups = [] }; name = []; tokens = [] }

-- two identities and three collections
abbrev pub desk : Setup
desk = record {
  namespace = 7;
  identities = identity ann ∷ identity bob ∷ [];
  collections = collection 192 ann ∷ collection 193 ann ∷ collection 194 bob ∷ [];
}

-- a transfer of these entries from the one collection to the other
abbrev pub transfer : ℕ → ℕ → List TransferEntry → TransferSpec
transfer source destination entries = record {
  source = source;
  destination = destination;
  label = None;
  deadline = None;
  level = None;
  verify = true;
  preserve = false;
  extra = false;
  skip_source = false;
  kept = record { given = 0; set = 0 };
  rules = [];
  entries = entries;
}

-- `/e` and `/d`
abbrev pub at_e : List (List ℕ)
at_e = (101 ∷ []) ∷ []

abbrev pub at_d : List (List ℕ)
at_d = (100 ∷ []) ∷ []

abbrev pub entry : List (List ℕ) → List (List ℕ) → TransferEntry
entry source destination = record { source = source; destination = destination; recursive = None }

abbrev pub one_file : TransferSpec
one_file = transfer 0 1 (entry at_e at_e ∷ [])

abbrev pub rule : Bool → AccessSpec
rule write = record { principal = Identity ann; path = at_d; write = write }

abbrev pub at : ℕ → Happening → Event
at moment what = record { moment = moment; what = what }

-- the counts of a state: tasks, items, issued identifiers, rows of rules, events, and the greatest moment
abbrev counts : MachineState → List ℕ
counts m = length m.tasks ∷ length m.items ∷ m.issued ∷ length m.access ∷ m.events ∷ m.greatest ∷ []

-- number, birth and end of each row of access rules; 0 for one that is live
abbrev lives : MachineState → List (ℕ × ℕ × ℕ)
lives m = map (λ row. (row.number, row.born, end_of row.ended)) m.access
  where
    end_of : Option ℕ → ℕ
    end_of None = 0
    end_of (Some k) = k

-- two owners use one submission identifier, and each gets its own task
abbrev submissions : List Event
submissions =
    at 100 (Issue ann)
    ∷ at 100 (SubmitTransfer ann (id 1) one_file)
    ∷ at 120 (SubmitTransfer bob (id 1) (transfer 0 2 (entry at_e at_e ∷ entry at_e at_d ∷ [])))
    ∷ []

pub submissions_run : option_map counts (run_of desk submissions) ≡ Some (2 ∷ 3 ∷ 1 ∷ 0 ∷ 3 ∷ 120 ∷ [])
unfolding is_utf8 chars encode
submissions_run = refl

-- whether the event has a step after the submissions
abbrev comes_after : Event → Option Bool
comes_after event = option_map (λ m. is_some (step_of desk m event)) (run_of desk submissions)

-- each of these has a step: at the greatest moment or later, with a new identifier, or by the other owner
pub steps_there : map comes_after (
    at 120 (Issue bob) ∷ at 121 (SubmitTransfer ann (id 2) one_file) ∷ at 121 (SubmitTransfer bob (id 2) one_file)
    ∷ at 121 (AccessAdd 2 (rule true)) ∷ at 121 (SubmitTransfer ann (id 3) (transfer 0 0 (entry at_e at_d ∷ []))) ∷ [])
    ≡ Some true ∷ Some true ∷ Some true ∷ Some true ∷ Some true ∷ []
unfolding is_utf8 chars encode
steps_there = refl

-- none of these has: an earlier moment, an unknown identity, an unknown owner, a repeat, a repeat with another document, a
-- collection that isn't there at each place, no entry, paths that overlap on one collection, a level of 4, a member that is
-- set and wasn't given, and rules that aren't there
pub steps_none : map comes_after (
    at 119 (Issue ann) ∷ at 121 (Issue (id 9)) ∷ at 121 (SubmitTransfer (id 9) (id 1) one_file)
    ∷ at 121 (SubmitTransfer ann (id 1) one_file) ∷ at 121 (SubmitTransfer bob (id 1) one_file)
    ∷ at 121 (SubmitTransfer ann (id 2) (transfer 3 1 (entry at_e at_e ∷ []))) ∷ at 121 (SubmitTransfer ann (id 2) (transfer 0 3 (entry at_e at_e ∷ [])))
    ∷ at 121 (AccessAdd 3 (rule true)) ∷ at 121 (SubmitTransfer ann (id 2) (transfer 0 1 []))
    ∷ at 121 (SubmitTransfer ann (id 2) (transfer 1 1 (entry at_e at_e ∷ [])))
    ∷ at 121 (SubmitTransfer ann (id 2) (record one_file { level = Some 4 }))
    ∷ at 121 (SubmitTransfer ann (id 2) (record one_file { kept = record { given = 1; set = 3 } }))
    ∷ at 121 (AccessReplace 1 true) ∷ at 121 (AccessEnd 0) ∷ at 121 (AccessEnd 1) ∷ [])
    ≡ Some false ∷ Some false ∷ Some false ∷ Some false ∷ Some false ∷ Some false ∷ Some false ∷ Some false ∷ Some false ∷ Some false ∷ Some false
    ∷ Some false ∷ Some false ∷ Some false ∷ Some false ∷ []
unfolding is_utf8 chars encode
steps_none = refl

-- a rule that is replaced keeps its number, and one that ended leaves it unused
abbrev changes : List Event
changes =
    at 5 (AccessAdd 2 (rule false))
    ∷ at 5 (AccessReplace 1 true)
    ∷ at 6 (AccessAdd 1 (rule false))
    ∷ at 6 (AccessEnd 1)
    ∷ at 7 (AccessAdd 2 (rule false))
    ∷ []

pub changes_run : option_map lives (run_of desk changes) ≡ Some ((1, 1, 2) ∷ (1, 2, 4) ∷ (2, 3, 0) ∷ (3, 5, 0) ∷ [])
unfolding is_utf8 chars encode
changes_run = refl

-- whether the event has a step after those changes
abbrev then_comes : Event → Option Bool
then_comes event = option_map (λ m. is_some (step_of desk m event)) (run_of desk changes)

-- a rule like a live one has no step whatever it permits, nor a change of one that ended; another principal, path or
-- collection is another rule
pub rules_come : map then_comes (
    at 8 (AccessAdd 2 (rule true)) ∷ at 8 (AccessEnd 1) ∷ at 8 (AccessReplace 1 true) ∷ at 8 (AccessEnd 4)
    ∷ at 8 (AccessAdd 2 (record { principal = Anonymous; path = at_d; write = false }))
    ∷ at 8 (AccessAdd 2 (record { principal = Identity ann; path = at_e; write = false }))
    ∷ at 8 (AccessAdd 0 (rule false)) ∷ at 8 (AccessEnd 3) ∷ at 8 (AccessReplace 2 true) ∷ [])
    ≡ Some false ∷ Some false ∷ Some false ∷ Some false ∷ Some true ∷ Some true ∷ Some true ∷ Some true ∷ Some true ∷ []
unfolding is_utf8 chars encode
rules_come = refl

-- an answer to a request of this identity at the moment 110, after the submissions
abbrev answer : List ℕ → Option (Decision Reply)
answer identity = option_map (λ m. answer_of desk m identity IssueId 110) (run_of desk submissions)

-- an event's moment isn't below the greatest; numbers go on
pub issue_answered : answer bob ≡ Some (Do (at 120 (Issue bob)) (Identifier 2))
unfolding is_utf8 chars encode
issue_answered = refl

-- a repeat gets the task of its owner, and a new identifier the next task
pub repeats_answered : (
    option_map (λ m. answer_of desk m bob (AskTransfer (id 1) one_file) 130) (run_of desk submissions) ≡ Some (Say (submitted false (id 1) 2)))
    × (option_map (λ m. answer_of desk m ann (AskTransfer (id 2) one_file) 130) (run_of desk submissions)
    ≡ Some (Do (at 130 (SubmitTransfer ann (id 2) one_file)) (submitted true (id 2) 3)))
unfolding is_utf8 chars encode
repeats_answered = (refl, refl)

-- the counters of a task of which no item has started
abbrev waiting : ℕ → Counters
waiting items = record {
  total = items;
  pending = items;
  retrying = 0;
  succeeded = 0;
  expired = 0;
  canceled = 0;
  failed = 0;
  skipped_errors = 0;
  files = 0;
  directories = 0;
  files_skipped = 0;
  files_transferred = 0;
  bytes_transferred = 0;
  bytes_checksummed = 0;
  faults = 0;
}

-- what is shown of such a task
abbrev line : ℕ → ℕ → TaskLine
line number items = record { number = number; is_delete = false; status = Active; counters = waiting items }

pub lines_shown : option_map task_lines (run_of desk submissions) ≡ Some (line 1 1 ∷ line 2 2 ∷ [])
unfolding is_utf8 chars encode
lines_shown = refl
