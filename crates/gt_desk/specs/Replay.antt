-- What replaying the bodies of a journal finds.
use Rattle.std.specs.Prelude.{List, Some, length, map, ℕ, ◌++◌, ◌∷◌, ◌≡◌}
use Rattle.gt_desk.specs.Damage.{IsBadBody}
use Rattle.gt_desk.specs.Desk.{events_of}
use Rattle.gt_desk.specs.declared.fault.OpenFault.{OpenFault}
use Rattle.gt_desk.specs.declared.fault.OpenFault.TheVariants.{Damaged, JournalFault, OutOfMemory}
use Rattle.gt_machine.specs.MachineState.{MachineState}
use Rattle.gt_machine.specs.Run.{run_of}
use Rattle.gt_records.specs.RecordText.{record_text}
use Rattle.gt_setup.specs.Setup.{Setup}

-- the bodies are texts of events, and those lead to the state
pub record Replays (setup : Setup) (bodies : List (List ℕ)) (machine : MachineState) : Type 0 where
  pub texts : bodies ≡ map record_text (events_of bodies)
  pub runs : run_of setup (events_of bodies) ≡ Some machine

-- so many bodies replay, and the next one is bad
pub record IsBadAt (setup : Setup) (number : ℕ) (bodies : List (List ℕ)) : Type 0 where
  pub front : List (List ℕ)
  pub body : List ℕ
  pub rest : List (List ℕ)
  pub whole : bodies ≡ front ++ body ∷ rest
  pub before : length front ≡ number
  pub machine : MachineState
  pub replays : Replays setup front machine
  pub bad : IsBadBody setup machine body

-- a refusal of a replay: it says where, or that memory was wanted
abbrev pub IsBadAs : Setup → List (List ℕ) → OpenFault → Type 0
IsBadAs setup bodies JournalFault = ⊥
IsBadAs setup bodies (Damaged number) = IsBadAt setup number bodies
IsBadAs setup bodies OutOfMemory = Unit {0}
