-- The opening of a desk: its journal stands for a history, and behind that the events of the opening are recorded.
use Rattle.std.specs.Prelude.{Bool, Err, IsTrue, List, None, Ok, Result, Some, [], false, ◌++◌, ◌∷◌, ◌≡◌, ◌⊎◌}
use Rattle.gt_causes.specs.Outcomes.{NoMore}
use Rattle.gt_desk.specs.Damage.{IsDamagedAs}
use Rattle.gt_desk.specs.Desk.{Desk}
use Rattle.gt_desk.specs.DeskCall.{IsKept}
use Rattle.gt_desk.specs.History.{Ledger, Stands, StandsDuring, StandsFor}
use Rattle.gt_desk.specs.declared.fault.OpenFault.{OpenFault}
use Rattle.gt_desk.specs.declared.fault.OpenFault.TheVariants.{Damaged, JournalFault, OutOfMemory}
use Rattle.gt_desk.specs.declared.fault.OpenRefused.{OpenRefused}
use Rattle.gt_disk.specs.Disk.{DiskWords, LeavesOnly}
use Rattle.gt_journal.specs.Opening.{HasSameBodies, IfSynced, OnceSynced}
use Rattle.gt_machine.specs.MachineState.{MachineState}
use Rattle.gt_machine.specs.Run.{run_from, run_of}
use Rattle.gt_setup.specs.Setup.{Setup}
use Rattle.gt_types.specs.declared.event.Event.{Event}

-- the events that an opening makes on the state to which the journal leads: none
abbrev pub opening_events : MachineState → List Event
opening_events machine = []

-- From what the journal stood for, with nothing in doubt, the events of the opening led to the ledger.
pub record Opens (setup : Setup) (found new : Ledger) : Type 0 where
  pub found_runs : run_of setup found.history ≡ Some found.machine
  pub found_clear : found.doubt ≡ None
  pub moves : run_from setup found.machine (opening_events found.machine) ≡ Some new.machine
  pub clear : new.doubt ≡ None

-- The journal failed in recording an event of the opening: that is dropped or in doubt.
pub record FailsToOpen (setup : Setup) (found new : Ledger) : Type 0 where
  pub found_runs : run_of setup found.history ≡ Some found.machine
  pub found_clear : found.doubt ≡ None
  pub event : Event
  pub made : opening_events found.machine ≡ event ∷ []
  pub new_is : (new ≡ record found { doubt = None }) ⊎ (new ≡ record found { doubt = Some event })

-- what was found is the history of a ledger whose doubt was settled
pub record Finds (old found : Ledger) : Type 0 where
  pub kept : List Event
  pub settles : IsKept old.doubt kept
  pub history : found.history ≡ old.history ++ kept

-- What a refused opening of a desk leaves of its ledger: all as before; or the journal failed behind what was found. An honest
-- disk's journal is never found damaged.
abbrev pub FailsToReopen : Setup → (honest : Bool) → Ledger → OpenFault → Ledger → Type 0
FailsToReopen setup honest old JournalFault new =
    (new ≡ old) ⊎ ((found : Ledger) × (IsTrue honest → Finds old found) × FailsToOpen setup found new)
FailsToReopen setup honest old (Damaged number) new = (honest ≡ false) × (new ≡ old)
FailsToReopen setup honest old OutOfMemory new = new ≡ old

-- the setup and the disk that come back from an opening
abbrev pub setup_in : {D : Type 0} → Result (Desk D) (OpenRefused D) → Setup
setup_in (Ok desk) = desk.setup
setup_in (Err refused) = refused.setup

abbrev pub disk_in : {D : Type 0} → Result (Desk D) (OpenRefused D) → D
disk_in (Ok desk) = desk.disk
disk_in (Err refused) = refused.disk

-- a desk that was opened on this disk
pub record IsOpened {D : Type 0} (words : DiskWords D) (setup : Setup) (disk : D) (desk : Desk D) : Type 0 where
  -- what the file stood for
  pub found : Ledger
  pub file : IsTrue (words.honest disk) → StandsFor setup found.history (words.seen disk)
  pub opens : Opens setup found desk.ledger
  pub history : IsTrue (words.honest disk) → desk.ledger.history ≡ found.history ++ opening_events found.machine
  pub crashes : IsTrue (words.honest disk) → OnceSynced words disk desk.disk (StandsDuring setup found desk.ledger)

-- an opening on this disk that was refused
pub record IsNotOpened {D : Type 0} (words : DiskWords D) (setup : Setup) (disk : D) (refused : OpenRefused D) : Type 0 where
  pub damaged : IsTrue (words.honest disk) → IsDamagedAs setup (words.seen disk) refused.fault
  -- a crash leaves the same bodies, once the file is on the disk
  pub crashes : IsTrue (words.honest disk) → IfSynced words disk refused.disk (HasSameBodies (words.seen disk))

-- a desk that was closed and opened again
pub record IsReopened {D : Type 0} (words : DiskWords D) (old new : Desk D) : Type 0 where
  -- what the file stood for
  pub found : Ledger
  pub finds : IsTrue (words.honest old.disk) → Finds old.ledger found
  pub opens : Opens old.setup found new.ledger
  pub history : IsTrue (words.honest old.disk) → new.ledger.history ≡ found.history ++ opening_events found.machine

-- a desk that was closed and not opened again
pub record IsNotReopened {D : Type 0} (words : DiskWords D) (old : Desk D) (refused : OpenRefused D) : Type 0 where
  -- the ledger that the disk stands for from then on
  pub left : Ledger
  pub fails : FailsToReopen old.setup (words.honest old.disk) old.ledger refused.fault left
  pub any_moment : IsTrue (words.honest old.disk) → LeavesOnly words old.disk refused.disk (StandsDuring old.setup old.ledger left)
  pub images : IsTrue (words.honest old.disk) → NoMore (Stands old.setup left) (words.may_leave refused.disk)
