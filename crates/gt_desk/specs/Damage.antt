-- Where a journal's file is damaged for a desk.
use Rattle.std.specs.Prelude.{IsTrue, List, None, Some, length, map, ℕ, ◌++◌, ◌∷◌, ◌≡◌, ◌⊎◌}
use Rattle.gt_desk.specs.declared.fault.OpenFault.{OpenFault}
use Rattle.gt_desk.specs.declared.fault.OpenFault.TheVariants.{Damaged}
use Rattle.gt_journal.specs.JournalText.{IsDamagedAfter, IsJournalText}
use Rattle.gt_machine.specs.MachineState.{MachineState}
use Rattle.gt_machine.specs.Run.{run_of}
use Rattle.gt_machine.specs.Step.{step_of}
use Rattle.gt_records.specs.RecordText.{record_text}
use Rattle.gt_setup.specs.Setup.{Setup}
use Rattle.gt_types.specs.Event.{is_recordable, recordable_collections}
use Rattle.gt_types.specs.declared.event.Event.{Event}

-- the body is the text of this event
pub record IsTextOf (event : Event) (body : List ℕ) : Type 0 where
  pub recordable : IsTrue (is_recordable recordable_collections event)
  pub text : record_text event ≡ body

-- the body is the text of no event, or of one on which the machine has no step
abbrev pub IsBadBody : Setup → MachineState → List ℕ → Type 0
IsBadBody setup machine body =
    ((event : Event) → IsTextOf event body → ⊥)
    ⊎ ((event : Event) × IsTextOf event body × (step_of setup machine event ≡ None))

-- the file's whole records are these, whether or not one that runs past the end follows
abbrev pub HasRecords : List (List ℕ) → List ℕ → Type 0
HasRecords bodies file = IsJournalText bodies file ⊎ IsDamagedAfter bodies file

-- behind the texts of this history, which leads to this state, stands a record whose body is bad
pub record IsBadAfter (setup : Setup) (history : List Event) (machine : MachineState) (file : List ℕ) : Type 0 where
  pub body : List ℕ
  pub rest : List (List ℕ)
  pub records : HasRecords (map record_text history ++ body ∷ rest) file
  pub bad : IsBadBody setup machine body

-- the records before the one of this number, counted from 0, are those of a history, and that one runs past the end or is bad
pub record IsDamagedAt (setup : Setup) (number : ℕ) (file : List ℕ) : Type 0 where
  pub history : List Event
  pub before : length history ≡ number
  pub machine : MachineState
  pub runs : run_of setup history ≡ Some machine
  pub at : IsDamagedAfter (map record_text history) file ⊎ IsBadAfter setup history machine file

-- where a refusal says that the file is damaged, it is damaged there
abbrev pub IsDamagedAs : Setup → List ℕ → OpenFault → Type 0
IsDamagedAs setup file (Damaged number) = IsDamagedAt setup number file
IsDamagedAs setup file fault = Unit {0}
