-- What a desk is to its callers, what its calls keep, and what its fields keep of each other.
use Rattle.std.specs.Option.{option_map}
use Rattle.std.specs.Prelude.{IfSome, IsTrue, List, None, Option, Result, Some, [], map, ℕ, ◌*◌, ◌++◌, ◌∷◌, ◌≡◌, ◌≤◌}
use Rattle.gt_causes.specs.Outcomes.{NoMore}
use Rattle.gt_desk.specs.DeskCall.{DeskCall, IsKept, Records}
use Rattle.gt_desk.specs.History.{Ledger, Stands, StandsDuring}
use Rattle.gt_desk.specs.declared.fault.DeskFault.{DeskFault}
use Rattle.gt_disk.specs.Disk.{DiskWords, IsSameDisk, LeavesOnly}
use Rattle.gt_journal.specs.Journal.{Journal}
use Rattle.gt_journal.specs.JournalText.{IsTextWithDoubt}
use Rattle.gt_machine.specs.Change.{Held, IsPlanned}
use Rattle.gt_machine.specs.MachineState.{MachineState}
use Rattle.gt_machine.specs.Run.{IsReached, run_from, run_of}
use Rattle.gt_machine.specs.declared.change.Change.{Change}
use Rattle.gt_machine.specs.declared.decision.Decision.{Decision}
use Rattle.gt_records.specs.ReadingEvents.{event_of}
use Rattle.gt_records.specs.RecordText.{record_text}
use Rattle.gt_setup.specs.Setup.{Setup}
use Rattle.gt_types.specs.Event.{is_recordable, recordable_collections}
use Rattle.gt_types.specs.declared.event.Event.{Event}

-- The setup, the disk, and the ledger. The ledger's state and its doubt hold whatever the disk tells, its history where the
-- disk is told and honest.
pub record Desk (D : Type 0) : Type 0 where
  pub setup : Setup
  pub disk : D
  pub ledger : Ledger

-- what each call keeps of a desk
pub record IsSameDesk {D : Type 0} (words : DiskWords D) (old new : Desk D) : Type 0 where
  pub setup : new.setup ≡ old.setup
  pub disk : IsSameDisk words old.disk new.disk

-- what a call did, where it was decided so from the settled state
pub record IsCall {D A : Type 0} (words : DiskWords D) (decide : MachineState → Decision A) (old : Desk D) (result : Result A DeskFault) (new : Desk D) : Type 0 where
  -- the events by which it moved the desk
  pub moved : List Event
  pub call : DeskCall old.setup decide old.ledger result moved new.ledger
  -- they stand behind the history
  pub history : IsTrue (words.honest old.disk) → new.ledger.history ≡ old.ledger.history ++ moved

-- the doubt was settled
pub record HasSettled {D : Type 0} (words : DiskWords D) (old new : Desk D) : Type 0 where
  pub kept : List Event
  pub settles : IsKept old.ledger.doubt kept
  pub runs : run_from old.setup old.ledger.machine kept ≡ Some new.ledger.machine
  pub history : IsTrue (words.honest old.disk) → new.ledger.history ≡ old.ledger.history ++ kept
  pub clear : new.ledger.doubt ≡ None

-- what was decided was recorded, where nothing was in doubt
pub record HasRecorded {D A : Type 0} (words : DiskWords D) (decision : Decision A) (old : Desk D) (result : Result A DeskFault) (new : Desk D) : Type 0 where
  pub made : List Event
  pub runs : run_from old.setup old.ledger.machine made ≡ Some new.ledger.machine
  pub history : IsTrue (words.honest old.disk) → new.ledger.history ≡ old.ledger.history ++ made
  pub records : Records decision result made new.ledger.doubt

-- the ledger is as it was
pub record IsSameLedger {D : Type 0} (words : DiskWords D) (old new : Desk D) : Type 0 where
  pub machine : new.ledger.machine ≡ old.ledger.machine
  pub doubt : new.ledger.doubt ≡ old.ledger.doubt
  pub history : IsTrue (words.honest old.disk) → new.ledger.history ≡ old.ledger.history

-- A crash at any moment from the old desk to the new one leaves what stands for the ledger of one of them.
abbrev pub StaysDuring : {D : Type 0} → DiskWords D → Desk D → Desk D → Type 0
StaysDuring words old new =
    IsTrue (words.honest old.disk) → LeavesOnly words old.disk new.disk (StandsDuring old.setup old.ledger new.ledger)

-- Until the next call a crash leaves what stands for the ledger.
abbrev pub Stays : {D : Type 0} → DiskWords D → Desk D → Type 0
Stays words desk = IsTrue (words.honest desk.disk) → NoMore (Stands desk.setup desk.ledger) (words.may_leave desk.disk)

-- as a list of at most one
abbrev pub listed : Option Event → List Event
listed None = []
listed (Some event) = event ∷ []

-- the events whose texts the bodies are
abbrev pub events_of : List (List ℕ) → List Event
events_of [] = []
events_of (body ∷ bodies) = listed (event_of body) ++ events_of bodies

-- the event whose change is kept while its record is in doubt
abbrev pub event_in : Option Change → Option Event
event_in doubt = option_map (λ change. change.event) doubt

-- where the disk is honest: the bodies are the texts of events that lead to the state, and a crash leaves no more
pub record Agrees {D : Type 0} (words : DiskWords D) (setup : Setup) (machine : MachineState) (journal : Journal D) : Type 0 where
  pub texts : journal.bodies ≡ map record_text (events_of journal.bodies)
  pub runs : run_of setup (events_of journal.bodies) ≡ Some machine
  pub images : NoMore (IsTextWithDoubt journal.bodies journal.doubt) (words.may_leave journal.disk)

-- a desk as its fields tell it
abbrev pub desk_of : {D : Type 0} → Setup → Held → Option Change → Journal D → Desk D
desk_of setup state doubt journal =
    record {
      setup = setup;
      disk = journal.disk;
      ledger = record { history = events_of journal.bodies; machine = state.machine; doubt = event_in doubt };
    }

-- the change is planned on the state, and its event has a text
pub record IsPending (setup : Setup) (state : Held) (change : Change) : Type 0 where
  pub planned : IsPlanned setup state change
  pub recordable : IsTrue (is_recordable recordable_collections change.event)

-- events led to the state, no more than the journal has place for; the change that is kept is pending, and the journal's doubt
-- is the text of its event
pub record IsConsistent {D : Type 0} (words : DiskWords D) (setup : Setup) (state : Held) (doubt : Option Change) (journal : Journal D) : Type 0 where
  pub reached : IsReached setup state.machine
  pub few : 9 * state.machine.events ≤ journal.place
  pub pending : IfSome doubt (IsPending setup state)
  pub text : journal.doubt ≡ option_map record_text (event_in doubt)
  pub told : IsTrue (words.honest journal.disk) → Agrees words setup state.machine journal
