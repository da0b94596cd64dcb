-- Which history a journal's file stands for.
use Rattle.std.specs.Prelude.{IsSome, List, None, Option, Some, [], map, ℕ, ◌++◌, ◌∷◌, ◌⊎◌}
use Rattle.gt_journal.specs.JournalText.{IsJournalText}
use Rattle.gt_machine.specs.MachineState.{MachineState}
use Rattle.gt_machine.specs.Run.{run_of}
use Rattle.gt_records.specs.RecordText.{record_text}
use Rattle.gt_setup.specs.Setup.{Setup}
use Rattle.gt_types.specs.declared.event.Event.{Event}

-- the events that count, the state that they lead to, and the event that may count
pub record Ledger : Type 0 where
  pub history : List Event
  pub machine : MachineState
  pub doubt : Option Event

-- the file's records are the texts of these events, and the machine has a step on each
pub record StandsFor (setup : Setup) (history : List Event) (file : List ℕ) : Type 0 where
  pub texts : IsJournalText (map record_text history) file
  pub runs : IsSome (run_of setup history)

-- the file stands for the history, or for it and the event in doubt
abbrev pub StandsWith : Setup → List Event → Option Event → List ℕ → Type 0
StandsWith setup history None file = StandsFor setup history file
StandsWith setup history (Some event) file = StandsFor setup history file ⊎ StandsFor setup (history ++ event ∷ []) file

abbrev pub Stands : Setup → Ledger → List ℕ → Type 0
Stands setup ledger file = StandsWith setup ledger.history ledger.doubt file

-- a crash leaves what stands for the ledger before a call, or for the one after it
abbrev pub StandsDuring : Setup → Ledger → Ledger → List ℕ → Type 0
StandsDuring setup old new file = Stands setup old file ⊎ Stands setup new file

-- the file stands for the history, with what came after it
abbrev pub Keeps : Setup → List Event → List ℕ → Type 0
Keeps setup history file = (later : List Event) × StandsFor setup (history ++ later) file
