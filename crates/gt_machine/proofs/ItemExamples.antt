-- Computed examples of what comes next for workers, and of what grants, refusals, reports and restarts do.
use Rattle.std.proofs.Common.{◌≡◌, ◌+◌, ◌++◌, ℕ, List, [], ◌∷◌, map, Bool, true, false, Option, Some, None, refl, if◌then◌else◌}
use Rattle.std.specs.Prelude.{is_some, nat_le, option_and_then, option_map, ◌&&◌}
use Rattle.std.specs.Str.{chars, is_utf8}
use lib.Utf8.{encode}
use Rattle.gt_machine.proofs.Examples.{ann, at, at_d, at_e, bob, desk, entry, id, one_file, rule, transfer}
use Rattle.gt_machine.specs.Closing.{concluded_state}
use Rattle.gt_machine.specs.ItemSteps.{grant_step, is_next_grant, is_next_refusal, refuse_step, report_step, restart_step}
use Rattle.gt_machine.specs.MachineState.{MachineState, empty_state}
use Rattle.gt_machine.specs.Next.{Grant as GrantNext, Idle, Next, Refuse as RefuseNext, Resume}
use Rattle.gt_machine.specs.Schedule.{next_for}
use Rattle.gt_machine.specs.Step.{effect_of, is_allowed}
use Rattle.gt_machine.specs.TaskLine.{task_lines}
use Rattle.gt_machine.specs.WorkerGrant.{grant_at}
use Rattle.gt_machine.specs.declared.line.TaskLine.{TaskLine}
use Rattle.gt_subtasks.specs.declared.item.How.TheVariants.{Copied as ByCopying}
use Rattle.gt_subtasks.specs.declared.item.ItemState.{ItemState}
use Rattle.gt_subtasks.specs.declared.item.ItemState.TheVariants.{Canceled, Failed as FailedItem, Pending, Retrying, Running, Skipped, Succeeded}
use Rattle.gt_types.specs.Event.{is_recordable}
use Rattle.gt_types.specs.declared.act.Act.TheVariants.{Transfer as TransferAct}
use Rattle.gt_types.specs.declared.act.Side.TheVariants.{Destination, Source}
use Rattle.gt_types.specs.declared.act.Want.TheVariants.{Either}
use Rattle.gt_types.specs.declared.code.Code.TheVariants.{FileNotFound, PermissionDenied, TreeFault as TreeFaults, VerifyMismatch, WrongKind}
use Rattle.gt_types.specs.declared.code.Reason.{Reason}
use Rattle.gt_types.specs.declared.code.Reason.TheVariants.{Code as ByCode}
use Rattle.gt_types.specs.declared.code.Status.TheVariants.{Succeeded as TaskSucceeded}
use Rattle.gt_types.specs.declared.event.Event.{Event}
use Rattle.gt_types.specs.declared.event.Happening.{Happening}
use Rattle.gt_types.specs.declared.event.Happening.TheVariants.{AccessAdd, AccessEnd, GrantItem, RefuseItem, ReportItem, Restart, SubmitTransfer}
use Rattle.gt_types.specs.declared.outcome.Evidence.{Evidence}
use Rattle.gt_types.specs.declared.outcome.Outcome.{Outcome}
use Rattle.gt_types.specs.declared.outcome.Outcome.TheVariants.{Copied, Failed, Mismatch, Removed, TreeFault}
use Rattle.gt_types.specs.declared.spec.TransferSpec.{TransferSpec}

-- whether the setup and the state allow what happens
abbrev allowed : MachineState → ℕ → Happening → Bool
allowed m moment (GrantItem worker item) = is_next_grant desk m moment worker item
allowed m moment (RefuseItem item side) = is_next_refusal desk m moment item side
allowed m moment (ReportItem item grant outcome) = true
allowed m moment Restart = true
allowed m moment what = is_allowed desk m moment what

-- the effect of the event k
abbrev effect : ℕ → ℕ → Happening → MachineState → Option MachineState
effect k moment (GrantItem worker item) m = grant_step k worker item m
effect k moment (RefuseItem item side) m = refuse_step k item side m
effect k moment (ReportItem item grant outcome) m = report_step k item grant outcome m
effect k moment Restart m = restart_step k moment m
effect k moment what m = effect_of k moment what m

-- the state after the event k, concluded and counted
abbrev counted : ℕ → ℕ → MachineState → MachineState
counted k moment m = record (concluded_state k moment m) { greatest = moment; events = k }

-- the next state, or none
abbrev step : MachineState → Event → Option MachineState
step m event =
    let k = m.events + 1 in
    if nat_le m.greatest event.moment && is_recordable 3 event && allowed m event.moment event.what
    then option_map (counted k event.moment) (effect k event.moment event.what m)
    else None

abbrev steps : MachineState → List Event → Option MachineState
steps m [] = Some m
steps m (event ∷ events) = option_and_then (λ next. steps next events) (step m event)

-- what is seen of the state that the events lead to
abbrev seen : {X : Type 0} → (MachineState → X) → List Event → Option X
seen f events = option_map f (steps (empty_state 7) events)

-- which of these events has a step after those
abbrev can_come : List Event → List Event → Option (List Bool)
can_come next events = seen (λ m. map (λ event. is_some (step m event)) next) events

-- what comes next for these workers
abbrev next_of : List ℕ → MachineState → List Next
next_of workers m = map (λ worker. next_for desk m worker 0) workers

-- what changes of an item: state, faults, bytes checked, whether it was tried again, its last grant, its end
abbrev Seen : Type 0
Seen = ItemState × ℕ × ℕ × Bool × Option ℕ × Option ℕ

abbrev items : MachineState → List Seen
items m = map (λ item. (item.state, item.faults, item.checked, item.tried, item.granted, item.ended)) m.items

-- why each task closes, and when it was complete
abbrev ends : MachineState → List (Option Reason × Option ℕ)
ends m = map (λ task. (task.closing, task.completed)) m.tasks

abbrev rows : MachineState → List Seen × List (Option Reason × Option ℕ)
rows m = (items m, ends m)

-- an item that has waited for a worker since it was made
abbrev fresh : Seen
fresh = (Pending, 0, 0, false, None, None)

abbrev digest : ℕ → List ℕ
digest n = id n ++ id n

-- three bytes, copied and read back, with six bytes read for digests
abbrev evidence : Evidence
evidence = record { size = 3; source = digest 1; back = Some (digest 1) }

abbrev copied : Outcome
copied = Copied evidence 6

-- the same, with something else read back
abbrev mismatch : Outcome
mismatch = Mismatch 3 (digest 1) 3 (digest 2) 6

-- two files of one task
abbrev two_files : TransferSpec
two_files = transfer 0 1 (entry at_e at_e ∷ entry at_d at_d ∷ [])

-- two owners: items 1 and 2 are of the one, item 3 is of the other
abbrev owners : List Event
owners = at 100 (SubmitTransfer ann (id 1) two_files) ∷ at 100 (SubmitTransfer bob (id 1) (transfer 2 2 (entry at_e at_d ∷ []))) ∷ []

-- owners take turns: who has fewer running items comes first, then the lesser task, then the lesser item
pub turns :
    (seen (next_of (1 ∷ 2 ∷ [])) owners ≡ Some (GrantNext 1 ∷ GrantNext 1 ∷ []))
    × (seen (next_of (1 ∷ 2 ∷ [])) (owners ++ at 100 (GrantItem 1 1) ∷ []) ≡ Some (Resume 1 ∷ GrantNext 3 ∷ []))
    × (seen (next_of (1 ∷ 2 ∷ 3 ∷ [])) (owners ++ at 100 (GrantItem 1 1) ∷ at 100 (GrantItem 2 3) ∷ [])
    ≡ Some (Resume 1 ∷ Resume 3 ∷ GrantNext 2 ∷ []))
    × (seen (next_of (3 ∷ 4 ∷ [])) (owners ++ at 100 (GrantItem 1 1) ∷ at 100 (GrantItem 2 3) ∷ at 100 (GrantItem 3 2) ∷ [])
    ≡ Some (Resume 2 ∷ Idle ∷ []))
unfolding is_utf8 chars encode
turns = (refl, refl, refl, refl)

-- a grant: the item runs for the worker since this event, and the worker gets what it needs
pub granted :
    (seen rows (owners ++ at 105 (GrantItem 1 1) ∷ [])
    ≡ Some ((Running 1 3, 0, 0, false, Some 3, None) ∷ fresh ∷ fresh ∷ [], (None, None) ∷ (None, None) ∷ []))
    × (seen (λ m. map (grant_at m) (0 ∷ 1 ∷ 2 ∷ 4 ∷ [])) (owners ++ at 105 (GrantItem 1 1) ∷ [])
    ≡ Some (
    None
    ∷ Some record {
      item = 1;
      event = 3;
      worker = 1;
      act = TransferAct at_e at_e Either;
      source = 0;
      destination = 1;
      level = None;
      verify = true;
      preserve = false;
      list_destination = false;
    }
    ∷ None ∷ None ∷ []))
unfolding is_utf8 chars encode
granted = (refl, refl)

-- the other events that might come there: only the item that comes next for its worker is granted, and no item is refused
pub grants_come : can_come (
    at 105 (GrantItem 1 1) ∷ at 105 (GrantItem 16 1) ∷ at 105 (GrantItem 17 1) ∷ at 105 (GrantItem 0 1) ∷ at 105 (GrantItem 1 0)
    ∷ at 105 (GrantItem 1 2) ∷ at 105 (GrantItem 1 3) ∷ at 105 (GrantItem 1 4) ∷ at 99 (GrantItem 1 1)
    ∷ at 105 (RefuseItem 1 Source) ∷ at 105 (RefuseItem 0 Source) ∷ at 105 (ReportItem 1 0 copied) ∷ at 105 (ReportItem 0 0 copied)
    ∷ at 100 Restart ∷ [])
    owners
    ≡ Some (
    true ∷ true ∷ false ∷ false ∷ false
    ∷ false ∷ false ∷ false ∷ false
    ∷ false ∷ false ∷ false ∷ false
    ∷ false ∷ [])
unfolding is_utf8 chars encode
grants_come = refl

-- one file that a worker has since event 2
abbrev running : List Event
running = at 100 (SubmitTransfer ann (id 1) one_file) ∷ at 101 (GrantItem 1 1) ∷ []

-- which reports come there: of this item and this grant, with an outcome that fits; nothing is granted twice
pub reports_come : can_come (
    at 130 (ReportItem 1 2 copied) ∷ at 101 (ReportItem 1 2 mismatch) ∷ at 130 (ReportItem 1 2 (TreeFault 0 1))
    ∷ at 130 (ReportItem 1 2 (Failed WrongKind Source)) ∷ at 130 (ReportItem 1 2 (Failed PermissionDenied Destination))
    ∷ at 130 (ReportItem 1 1 copied) ∷ at 130 (ReportItem 1 3 copied) ∷ at 130 (ReportItem 0 2 copied) ∷ at 130 (ReportItem 2 2 copied)
    ∷ at 100 (ReportItem 1 2 copied) ∷ at 130 (ReportItem 1 2 (Copied (record evidence { back = None }) 3))
    ∷ at 130 (ReportItem 1 2 (Copied (record evidence { back = Some (digest 2) }) 6)) ∷ at 130 (ReportItem 1 2 (Mismatch 3 (digest 1) 3 (digest 1) 6))
    ∷ at 130 (ReportItem 1 2 (TreeFault 1 1)) ∷ at 130 (ReportItem 1 2 (Failed VerifyMismatch Source)) ∷ at 130 (ReportItem 1 2 Removed)
    ∷ at 130 (GrantItem 1 1) ∷ at 130 (GrantItem 2 1) ∷ at 130 (RefuseItem 1 Source) ∷ at 101 Restart ∷ at 102 Restart ∷ [])
    running
    ≡ Some (
    true ∷ true ∷ true
    ∷ true ∷ true
    ∷ false ∷ false ∷ false ∷ false
    ∷ false ∷ false
    ∷ false ∷ false
    ∷ false ∷ false ∷ false
    ∷ false ∷ false ∷ false ∷ true ∷ false ∷ [])
unfolding is_utf8 chars encode
reports_come = refl

-- what is shown of a task of one file that was copied
abbrev copied_line : TaskLine
copied_line = record {
  number = 1;
  is_delete = false;
  status = TaskSucceeded;
  counters = record {
    total = 1;
    pending = 0;
    retrying = 0;
    succeeded = 1;
    expired = 0;
    canceled = 0;
    failed = 0;
    skipped_errors = 0;
    files = 1;
    directories = 0;
    files_skipped = 0;
    files_transferred = 1;
    bytes_transferred = 3;
    bytes_checksummed = 6;
    faults = 0;
  };
}

-- a file is copied, its task is complete at that moment, nothing comes next, and the grant is used up
pub file_copied :
    (seen rows (running ++ at 130 (ReportItem 1 2 copied) ∷ [])
    ≡ Some ((Succeeded (ByCopying evidence), 0, 6, false, Some 2, Some 3) ∷ [], (None, Some 130) ∷ []))
    × (seen task_lines (running ++ at 130 (ReportItem 1 2 copied) ∷ []) ≡ Some (copied_line ∷ []))
    × (seen (next_of (1 ∷ [])) (running ++ at 130 (ReportItem 1 2 copied) ∷ []) ≡ Some (Idle ∷ []))
    × (can_come (at 130 (ReportItem 1 2 copied) ∷ at 130 Restart ∷ []) (running ++ at 130 (ReportItem 1 2 copied) ∷ [])
    ≡ Some (false ∷ false ∷ []))
unfolding is_utf8 chars encode
file_copied = (refl, refl, refl, refl)

-- a task is complete once, whatever comes later
pub complete_once :
    seen ends (running ++ at 130 (ReportItem 1 2 copied) ∷ at 140 (SubmitTransfer bob (id 1) (transfer 2 2 (entry at_e at_d ∷ [])))
    ∷ at 141 (GrantItem 1 2) ∷ at 150 (ReportItem 2 5 copied) ∷ [])
    ≡ Some ((None, Some 130) ∷ (None, Some 150) ∷ [])
unfolding is_utf8 chars encode
complete_once = refl

-- two files of one task, of which the first is granted and comes to a mismatch, again and again
abbrev mismatches : List Event
mismatches =
    at 100 (SubmitTransfer ann (id 1) two_files)
    ∷ at 100 (GrantItem 1 1) ∷ at 101 (ReportItem 1 2 mismatch)
    ∷ at 102 (GrantItem 1 1) ∷ at 103 (ReportItem 1 4 mismatch)
    ∷ at 104 (GrantItem 1 1) ∷ at 105 (ReportItem 1 6 mismatch)
    ∷ at 106 (GrantItem 1 1) ∷ at 107 (ReportItem 1 8 mismatch)
    ∷ []

-- after four the item is tried again; the fifth fails, the task closes, and its other item is canceled
pub mismatches_fail :
    (seen rows mismatches ≡ Some ((Retrying, 4, 24, true, Some 8, None) ∷ fresh ∷ [], (None, None) ∷ []))
    × (seen rows (mismatches ++ at 108 (GrantItem 1 1) ∷ at 109 (ReportItem 1 10 mismatch) ∷ [])
    ≡ Some (
      (FailedItem VerifyMismatch, 5, 30, true, Some 10, Some 11) ∷ (Canceled, 0, 0, false, None, Some 11) ∷ [],
      (Some (ByCode VerifyMismatch), Some 109) ∷ [],
    ))
    × (seen rows (mismatches ++ at 108 (GrantItem 1 1) ∷ at 109 (ReportItem 1 10 (TreeFault 6 7)) ∷ [])
    ≡ Some (
      (FailedItem TreeFaults, 5, 24, true, Some 10, Some 11) ∷ (Canceled, 0, 0, false, None, Some 11) ∷ [],
      (Some (ByCode TreeFaults), Some 109) ∷ [],
    ))
unfolding is_utf8 chars encode
mismatches_fail = (refl, refl, refl)

-- two files of one task, one with each of two workers
abbrev both_running : List Event
both_running = at 100 (SubmitTransfer ann (id 1) two_files) ∷ at 100 (GrantItem 1 1) ∷ at 100 (GrantItem 2 2) ∷ []

-- the first fails: the task closes, and waits for the second
abbrev closing : List Event
closing = both_running ++ at 101 (ReportItem 1 2 (Failed WrongKind Source)) ∷ []

-- in a closing task a fault ends the item as the closing does, and counts; a copy or a failure ends it as ever, and the first
-- reason stays
pub ends_while_closing :
    (seen rows closing
    ≡ Some (
      (FailedItem WrongKind, 0, 0, false, Some 2, Some 4) ∷ (Running 2 3, 0, 0, false, Some 3, None) ∷ [],
      (Some (ByCode WrongKind), None) ∷ [],
    ))
    × (seen rows (closing ++ at 102 (ReportItem 2 3 mismatch) ∷ [])
    ≡ Some (
      (FailedItem WrongKind, 0, 0, false, Some 2, Some 4) ∷ (Canceled, 1, 6, false, Some 3, Some 5) ∷ [],
      (Some (ByCode WrongKind), Some 102) ∷ [],
    ))
    × (seen rows (closing ++ at 102 (ReportItem 2 3 copied) ∷ [])
    ≡ Some (
      (FailedItem WrongKind, 0, 0, false, Some 2, Some 4)
          ∷ (Succeeded (ByCopying evidence), 0, 6, false, Some 3, Some 5) ∷ [],
      (Some (ByCode WrongKind), Some 102) ∷ [],
    ))
    × (seen rows (closing ++ at 102 (ReportItem 2 3 (Failed FileNotFound Source)) ∷ [])
    ≡ Some (
      (FailedItem WrongKind, 0, 0, false, Some 2, Some 4) ∷ (FailedItem FileNotFound, 0, 0, false, Some 3, Some 5) ∷ [],
      (Some (ByCode WrongKind), Some 102) ∷ [],
    ))
unfolding is_utf8 chars encode
ends_while_closing = (refl, refl, refl, refl)

-- the same for a fifth fault: it ends the item as the closing does
pub fifth_while_closing :
    seen rows (
    at 100 (SubmitTransfer ann (id 1) two_files) ∷ at 100 (GrantItem 1 1)
    ∷ at 100 (GrantItem 2 2) ∷ at 101 (ReportItem 2 3 mismatch) ∷ at 101 (GrantItem 2 2) ∷ at 101 (ReportItem 2 5 mismatch)
    ∷ at 101 (GrantItem 2 2) ∷ at 101 (ReportItem 2 7 mismatch) ∷ at 101 (GrantItem 2 2) ∷ at 101 (ReportItem 2 9 mismatch)
    ∷ at 101 (GrantItem 2 2) ∷ at 102 (ReportItem 1 2 (Failed WrongKind Destination)) ∷ at 103 (ReportItem 2 11 mismatch) ∷ [])
    ≡ Some (
      (FailedItem WrongKind, 0, 0, false, Some 2, Some 12) ∷ (Canceled, 5, 30, true, Some 11, Some 13) ∷ [],
      (Some (ByCode WrongKind), Some 103) ∷ [],
    )
unfolding is_utf8 chars encode
fifth_while_closing = refl

-- a source that is missing or denied is skipped where the task says so; another failure of it isn't, nor one at the
-- destination
abbrev skipping : TransferSpec → TransferSpec
skipping spec = record spec { skip_source = true }

abbrev skipping_run : Outcome → List Event
skipping_run outcome =
    at 100 (SubmitTransfer ann (id 1) (skipping one_file)) ∷ at 101 (GrantItem 1 1) ∷ at 102 (ReportItem 1 2 outcome) ∷ []

pub skipped_or_failed :
    (seen rows (skipping_run (Failed PermissionDenied Source))
    ≡ Some ((Skipped PermissionDenied, 0, 0, false, Some 2, Some 3) ∷ [], (None, Some 102) ∷ []))
    × (seen rows (skipping_run (Failed FileNotFound Source))
    ≡ Some ((Skipped FileNotFound, 0, 0, false, Some 2, Some 3) ∷ [], (None, Some 102) ∷ []))
    × (seen rows (skipping_run (Failed WrongKind Source))
    ≡ Some ((FailedItem WrongKind, 0, 0, false, Some 2, Some 3) ∷ [], (Some (ByCode WrongKind), Some 102) ∷ []))
    × (seen rows (skipping_run (Failed PermissionDenied Destination))
    ≡ Some ((FailedItem PermissionDenied, 0, 0, false, Some 2, Some 3) ∷ [], (Some (ByCode PermissionDenied), Some 102) ∷ []))
    × (seen rows (running ++ at 102 (ReportItem 1 2 (Failed PermissionDenied Source)) ∷ [])
    ≡ Some ((FailedItem PermissionDenied, 0, 0, false, Some 2, Some 3) ∷ [], (Some (ByCode PermissionDenied), Some 102) ∷ []))
unfolding is_utf8 chars encode
skipped_or_failed = (refl, refl, refl, refl, refl)

-- a file that the caller may read in another's collection, by a rule; then the rule ends
abbrev permitted : TransferSpec → List Event
permitted spec = at 100 (AccessAdd 2 (rule false)) ∷ at 100 (SubmitTransfer ann (id 1) spec) ∷ []

abbrev denied : TransferSpec → List Event
denied spec = permitted spec ++ at 101 (AccessEnd 1) ∷ []

-- from there to a collection of the caller, and back to that collection
abbrev from_there : TransferSpec
from_there = transfer 2 0 (entry at_d at_e ∷ [])

abbrev back_there : TransferSpec
back_there = transfer 2 2 (entry at_d at_e ∷ [])

-- the right is judged at the grant: it is there by a rule of an earlier event; once the rule has ended the item is refused at
-- its source, and a rule that lets one read doesn't let one write
pub right_judged :
    (seen (next_of (1 ∷ [])) (permitted from_there) ≡ Some (GrantNext 1 ∷ []))
    × (seen (next_of (1 ∷ [])) (denied from_there) ≡ Some (RefuseNext 1 Source ∷ []))
    × (can_come (at 102 (GrantItem 1 1) ∷ at 102 (RefuseItem 1 Source) ∷ at 102 (RefuseItem 1 Destination) ∷ at 102 (RefuseItem 2 Source) ∷ [])
    (denied from_there)
    ≡ Some (false ∷ true ∷ false ∷ false ∷ []))
    × (seen (next_of (1 ∷ [])) (permitted back_there) ≡ Some (RefuseNext 1 Destination ∷ []))
    × (seen (next_of (1 ∷ [])) (denied back_there) ≡ Some (RefuseNext 1 Source ∷ []))
    × (can_come (at 102 (RefuseItem 1 Source) ∷ at 102 (RefuseItem 1 Destination) ∷ []) (denied back_there) ≡ Some (true ∷ true ∷ []))
unfolding is_utf8 chars encode
right_judged = (refl, refl, refl, refl, refl, refl)

-- a right that comes after the submission is there at the grant, from the event after the rule's on
pub right_comes :
    (seen (next_of (1 ∷ [])) (at 100 (SubmitTransfer ann (id 1) from_there) ∷ []) ≡ Some (RefuseNext 1 Source ∷ []))
    × (seen (next_of (1 ∷ [])) (at 100 (SubmitTransfer ann (id 1) from_there) ∷ at 100 (AccessAdd 2 (rule false)) ∷ []) ≡ Some (GrantNext 1 ∷ []))
unfolding is_utf8 chars encode
right_comes = (refl, refl)

-- a refusal fails the item, or skips it at a source where the task says so, and never at a destination; a right that goes
-- after the grant changes nothing
pub refused_items :
    (seen rows (denied from_there ++ at 102 (RefuseItem 1 Source) ∷ [])
    ≡ Some ((FailedItem PermissionDenied, 0, 0, false, None, Some 4) ∷ [], (Some (ByCode PermissionDenied), Some 102) ∷ []))
    × (seen rows (denied (skipping from_there) ++ at 102 (RefuseItem 1 Source) ∷ [])
    ≡ Some ((Skipped PermissionDenied, 0, 0, false, None, Some 4) ∷ [], (None, Some 102) ∷ []))
    × (seen rows (denied (skipping back_there) ++ at 102 (RefuseItem 1 Destination) ∷ [])
    ≡ Some ((FailedItem PermissionDenied, 0, 0, false, None, Some 4) ∷ [], (Some (ByCode PermissionDenied), Some 102) ∷ []))
    × (seen rows (permitted from_there ++ at 101 (GrantItem 1 1) ∷ at 102 (AccessEnd 1) ∷ at 103 (ReportItem 1 3 copied) ∷ [])
    ≡ Some ((Succeeded (ByCopying evidence), 0, 6, false, Some 3, Some 5) ∷ [], (None, Some 103) ∷ []))
unfolding is_utf8 chars encode
refused_items = (refl, refl, refl, refl)

-- a worker's own item comes before a refusal, and a refusal before a grant
pub refusal_between :
    (seen (next_of (1 ∷ 2 ∷ []))
    (at 99 (SubmitTransfer bob (id 1) (transfer 2 2 (entry at_e at_d ∷ []))) ∷ at 99 (GrantItem 1 1) ∷ denied from_there)
    ≡ Some (Resume 1 ∷ RefuseNext 2 Source ∷ []))
    × (seen (next_of (1 ∷ []))
    (at 99 (SubmitTransfer bob (id 1) (transfer 2 2 (entry at_e at_d ∷ []))) ∷ denied from_there)
    ≡ Some (RefuseNext 2 Source ∷ []))
unfolding is_utf8 chars encode
refusal_between = (refl, refl)

-- a restart gives up what runs: it is tried again, and after that without its level; in a closing task it ends
pub restarted :
    (seen rows (owners ++ at 105 (GrantItem 1 1) ∷ at 105 Restart ∷ [])
    ≡ Some ((Retrying, 0, 0, true, Some 3, None) ∷ fresh ∷ fresh ∷ [], (None, None) ∷ (None, None) ∷ []))
    × (seen (next_of (1 ∷ 2 ∷ [])) (owners ++ at 105 (GrantItem 1 1) ∷ at 105 Restart ∷ []) ≡ Some (GrantNext 1 ∷ GrantNext 1 ∷ []))
    × (seen rows (closing ++ at 101 Restart ∷ [])
    ≡ Some (
      (FailedItem WrongKind, 0, 0, false, Some 2, Some 4) ∷ (Canceled, 0, 0, false, Some 3, Some 5) ∷ [],
      (Some (ByCode WrongKind), Some 101) ∷ [],
    ))
    × (can_come (at 130 (ReportItem 1 2 copied) ∷ []) (running ++ at 101 Restart ∷ []) ≡ Some (false ∷ []))
unfolding is_utf8 chars encode
restarted = (refl, refl, refl, refl)

-- the levels of the grants of the items
abbrev levels : MachineState → List (Option (Option ℕ))
levels m = map (λ number. option_map (λ grant. grant.level) (grant_at m number)) (1 ∷ [])

abbrev with_level : List Event
with_level = at 100 (SubmitTransfer ann (id 1) (record one_file { level = Some 1 })) ∷ at 101 (GrantItem 1 1) ∷ []

pub level_until_tried :
    (seen levels with_level ≡ Some (Some (Some 1) ∷ []))
    × (seen levels (with_level ++ at 101 Restart ∷ at 102 (GrantItem 2 1) ∷ []) ≡ Some (Some None ∷ []))
unfolding is_utf8 chars encode
level_until_tried = (refl, refl)

-- a task more beside the running one, from the one collection to the other
abbrev beside : ℕ → ℕ → List (List ℕ) → List (List ℕ) → List Event
beside source destination from to = running ++ at 102 (SubmitTransfer ann (id 2) (transfer source destination (entry from to ∷ []))) ∷ []

-- `/e/e`
abbrev below_e : List (List ℕ)
below_e = (101 ∷ []) ∷ (101 ∷ []) ∷ []

-- beside the transfer of `/e` to `/e` of collection 1: nothing is written to or below what it writes or reads, nor read from
-- what it writes; reading what it reads, and writing elsewhere, is no conflict
pub conflicting :
    (seen (next_of (2 ∷ [])) (beside 0 1 at_d below_e) ≡ Some (Idle ∷ []))
    × (seen (next_of (2 ∷ [])) (beside 1 0 below_e at_d) ≡ Some (Idle ∷ []))
    × (seen (next_of (2 ∷ [])) (beside 1 0 at_d at_e) ≡ Some (Idle ∷ []))
    × (seen (next_of (2 ∷ [])) (beside 0 1 at_e at_d) ≡ Some (GrantNext 2 ∷ []))
    × (seen (next_of (2 ∷ [])) (beside 0 1 at_d below_e ++ at 103 (ReportItem 1 2 copied) ∷ []) ≡ Some (GrantNext 2 ∷ []))
    × (can_come (at 103 (GrantItem 2 2) ∷ []) (beside 0 1 at_d below_e) ≡ Some (false ∷ []))
unfolding is_utf8 chars encode
conflicting = (refl, refl, refl, refl, refl, refl)
