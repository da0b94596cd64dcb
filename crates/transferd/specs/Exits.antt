-- What each exit says.
use Rattle.gt_causes.specs.Causes.{Rose}
use Rattle.gt_desk.specs.Damage.{IsDamagedAt}
use Rattle.gt_desk.specs.History.{StandsFor}
use Rattle.gt_desk.specs.declared.fault.OpenFault.{OpenFault}
use Rattle.gt_desk.specs.declared.fault.OpenFault.TheVariants.{Damaged as OpenDamaged, JournalFault as OpenJournalFault, OutOfMemory as OpenOutOfMemory}
use Rattle.gt_script.specs.Script.{EndsBehind, Reads}
use Rattle.gt_script.specs.declared.line.Line.{Line}
use Rattle.gt_script.specs.declared.line.ScriptFault.{ScriptFault}
use Rattle.gt_script.specs.declared.line.ScriptFault.TheVariants.{OutOfMemory as ReadOutOfMemory, Refused as ReadRefused, SourceFault as ReadSourceFault}
use Rattle.gt_disk.specs.Disk.{DiskWords}
use Rattle.gt_setup.specs.Grammar.{setup_of}
use Rattle.gt_setup.specs.Setup.{Setup}
use Rattle.gt_streams.specs.Streams.{SinkWords, SourceWords}
use Rattle.gt_types.specs.declared.event.Event.{Event}
use Rattle.std.specs.Prelude.{Err, List, Ok, length, take, ◌+◌, ◌≡◌, ◌⊎◌, ℕ}
use Rattle.transferd.specs.Run.{IsEnded, IsUnended}
use Rattle.transferd.specs.declared.exit.Exit.{Exit}
use Rattle.transferd.specs.declared.exit.Exit.TheVariants.{Damaged, Done, JournalFault, OutOfMemory, ScriptRefused, SetupRefused, SinkFault, SourceFault, Usage}

-- the status that a process ends with
abbrev pub status_of : Exit → ℕ
status_of Done = 0
status_of Usage = 2
status_of (SetupRefused fault) = 3
status_of (ScriptRefused line) = 4
status_of SourceFault = 5
status_of SinkFault = 6
status_of JournalFault = 7
status_of (Damaged number) = 8
status_of OutOfMemory = 9

-- the exit that a fault in opening the desk comes to
abbrev pub exit_of_open : OpenFault → Exit
exit_of_open OpenJournalFault = JournalFault
exit_of_open (OpenDamaged number) = Damaged number
exit_of_open OpenOutOfMemory = OutOfMemory

-- the exit where no line was read
abbrev pub exit_of_read : ScriptFault → Exit
exit_of_read (ReadRefused line) = ScriptRefused line
exit_of_read ReadSourceFault = SourceFault
exit_of_read ReadOutOfMemory = OutOfMemory

-- the exit that a script of these bytes comes to under the setup where nothing fails
abbrev pub ScriptExit : Setup → List ℕ → Exit → Type 0
ScriptExit setup bytes Done = (lines : List Line) × (after : List ℕ) × Reads setup lines bytes after × IsEnded lines
ScriptExit setup bytes (ScriptRefused number) = (lines : List Line) × (after : List ℕ) × Reads setup lines bytes after × IsUnended lines × EndsBehind setup lines bytes × (number ≡ length lines + 1)
ScriptExit setup bytes exit = ⊥

-- the exit that a journal's file and a script come to under the setup where nothing fails
abbrev pub DeskExit : Setup → List ℕ → List ℕ → Exit → Type 0
DeskExit setup script file Done = ((history : List Event) × StandsFor setup history file) × ScriptExit setup script Done
DeskExit setup script file (ScriptRefused line) = ((history : List Event) × StandsFor setup history file) × ScriptExit setup script (ScriptRefused line)
DeskExit setup script file (Damaged number) = IsDamagedAt setup number file
DeskExit setup script file exit = ⊥

-- what is read of a setup's source: all of it, or one byte more than a setup may have
abbrev pub setup_read : List ℕ → List ℕ
setup_read bytes = take 1048577 bytes

-- under the setup that these bytes stand for
abbrev pub UnderSetup : List ℕ → (Setup → Type 0) → Type 0
UnderSetup bytes P = (setup : Setup) × (setup_of (setup_read bytes) ≡ Ok setup) × P setup

-- the exit that these bytes of a setup, of a script and of a journal come to where nothing fails
abbrev pub ExitFor : List ℕ → List ℕ → List ℕ → Exit → Type 0
ExitFor setup script file (SetupRefused fault) = setup_of (setup_read setup) ≡ Err fault
ExitFor setup script file Done = UnderSetup setup (λ opened. DeskExit opened script file Done)
ExitFor setup script file (ScriptRefused line) = UnderSetup setup (λ opened. DeskExit opened script file (ScriptRefused line))
ExitFor setup script file (Damaged number) = UnderSetup setup (λ opened. DeskExit opened script file (Damaged number))
ExitFor setup script file exit = ⊥

-- the exit of a device that failed, or of want of memory
abbrev pub IsFault : Exit → Type 0
IsFault exit = (exit ≡ SourceFault) ⊎ ((exit ≡ SinkFault) ⊎ ((exit ≡ JournalFault) ⊎ (exit ≡ OutOfMemory)))

-- this exit, or that of a device that failed or of want of memory in its place
abbrev pub IsUnlessFault : Exit → Exit → Type 0
IsUnlessFault exit result = (result ≡ exit) ⊎ IsFault result

-- the counts of faults of a script, of its output and of the journal's disk
pub record Faults : Type 0 where
  pub script : ℕ
  pub out : ℕ
  pub disk : ℕ

abbrev pub faults_of : {T K D : Type 0} → SourceWords T → T → SinkWords K → K → DiskWords D → D → Faults
faults_of source script sink out words disk = record { script = source.faults script; out = sink.faults out; disk = words.faults disk }

-- of a script's run: a fault is told only where its own count rose
pub record HasScriptCauses (exit : Exit) (before after : Faults) : Type 0 where
  pub source : exit ≡ SourceFault → Rose before.script after.script
  pub sink : exit ≡ SinkFault → Rose before.out after.out
  pub journal : exit ≡ JournalFault → Rose before.disk after.disk

-- the same, where a setup's source was read before
pub record HasCauses (exit : Exit) (setup_before setup_after : ℕ) (before after : Faults) : Type 0 where
  pub source : exit ≡ SourceFault → Rose setup_before setup_after ⊎ Rose before.script after.script
  pub sink : exit ≡ SinkFault → Rose before.out after.out
  pub journal : exit ≡ JournalFault → Rose before.disk after.disk

-- no device failed: no count rose
pub record NoneRose (setup_before setup_after : ℕ) (before after : Faults) : Type 0 where
  pub setup : Rose setup_before setup_after → ⊥
  pub script : Rose before.script after.script → ⊥
  pub out : Rose before.out after.out → ⊥
  pub disk : Rose before.disk after.disk → ⊥
