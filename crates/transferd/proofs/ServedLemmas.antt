-- What comes of an opening and of the run behind it.
use Rattle.gt_desk.specs.Desk.{Desk}
use Rattle.gt_desk.specs.History.{Ledger, StandsDuring}
use Rattle.gt_desk.specs.Opening.{IsNotOpened, IsOpened, opening_events}
use Rattle.gt_desk.specs.declared.fault.OpenFault.{OpenFault}
use Rattle.gt_desk.specs.declared.fault.OpenFault.TheVariants.{Damaged, JournalFault, OutOfMemory}
use Rattle.gt_desk.specs.declared.fault.OpenRefused.{OpenRefused}
use Rattle.gt_disk.specs.Disk.{DiskWords, IsSameDisk}
use Rattle.gt_journal.specs.Opening.{OnceSynced}
use Rattle.gt_machine.specs.Run.{run_from, run_of}
use Rattle.gt_setup.specs.Setup.{Setup}
use Rattle.gt_types.specs.declared.event.Event.{Event}
use Rattle.std.proofs.Common.{Bool, List, Some, refl, subst, sym, true, ◌++◌, ◌≡◌}
use Rattle.gt_machine.specs.MachineState.{MachineState, empty_state}
use Rattle.gt_world.specs.Crashes.{CrashesKeep, KeepsAcknowledged}
use Rattle.transferd.specs.Endings.{Stream}
use Rattle.transferd.specs.Exits.{exit_of_open}
use Rattle.transferd.specs.MainTheorem.{NotServed, Ran, Served}
use Rattle.transferd.specs.Opening.{IsOpenFaultOf, IsUntouched}
use Rattle.transferd.specs.Run.{Played, ScriptRun, steps_of, world_at}
use Rattle.gt_world.specs.SoundRuns.{AreSound, HaveOneTaskEach}
use Rattle.gt_world.specs.World.{Taken, World, WorldRun, world_on}
use Rattle.transferd.specs.declared.exit.Exit.{Exit}

-- what is said of runs on an honest disk
abbrev pub StaysInRuns : {D : Type 0} → DiskWords D → Type 0
StaysInRuns {D} words =
    (setup : Setup) (disk last : D) (start : World) (steps : List Taken) → WorldRun setup true start steps → CrashesKeep words setup disk start steps last → KeepsAcknowledged words setup disk start steps last

-- what is said of all steps of a run, under this setup
pub record RunLaws (setup : Setup) : Type 0 where
  pub go_on : (m middle last : MachineState) (front back : List Event) → run_from setup m front ≡ Some middle → run_from setup middle back ≡ Some last → run_from setup m (front ++ back) ≡ Some last
  pub one_run : (honest : Bool) (start : World) (run : List Played) (last : List Taken) → ScriptRun setup honest start run → WorldRun setup honest (world_at start run) last → WorldRun setup honest start (steps_of run ++ last)
  pub sound : (honest : Bool) (start : World) (steps : List Taken) → run_of setup start.ledger.history ≡ Some start.ledger.machine → WorldRun setup honest start steps → AreSound setup start steps
  pub one_task : (start : World) (steps : List Taken) → AreSound setup start steps → HaveOneTaskEach setup start steps

module _ {D : Type 0} (words : DiskWords D) (setup : Setup) (old : D) (desk : Desk D) (is : IsOpened words setup old desk) (kept : IsSameDisk words old desk.disk) (laws : RunLaws setup) where
  abbrev pub opened : List Event
  opened = is.found.history ++ opening_events is.found.machine

  abbrev pub start : Ledger
  start = record desk.ledger { history = opened }

  pub opened_runs : run_of setup opened ≡ Some desk.ledger.machine
  opened_runs = laws.go_on (empty_state setup.namespace) is.found.machine desk.ledger.machine is.found.history (opening_events is.found.machine) is.opens.found_runs is.opens.moves

  -- an opened desk, and a run from there
  pub served : StaysInRuns words → (exit : Exit) (new : D) (script out : Stream) → Ran words (words.honest old) exit setup (world_on start (words.faults desk.disk)) desk.disk new script out
      → Served words (words.honest old) exit setup old new script out
  served stays exit new script out ran =
      let world = world_on start (words.faults desk.disk) in
      let steps = steps_of ran.run ++ ran.last in
      let one_run = laws.one_run (words.honest old) world ran.run ran.last ran.lines ran.rest in
      let sound = laws.sound (words.honest old) world steps opened_runs one_run in
      record {
        found = is.found;
        opened = start;
        file = is.file;
        opens = record { found_runs = is.opens.found_runs; found_clear = is.opens.found_clear; moves = is.opens.moves; clear = is.opens.clear };
        history = refl;
        disk = desk.disk;
        later = kept.later;
        opening = λ t. subst (λ (h : List Event). OnceSynced words old desk.disk (λ c. StandsDuring setup is.found (record desk.ledger { history = h }) c)) (is.history t) (is.crashes t);
        ran = ran;
        sound = sound;
        one_task_per_submission = laws.one_task world steps sound;
        acknowledged = λ t. stays setup desk.disk new world steps (subst (λ (b : Bool). WorldRun setup b world steps) t one_run) (ran.crashes t);
      }

told_as : (fault : OpenFault) → IsOpenFaultOf (exit_of_open fault) fault
told_as JournalFault = refl
told_as (Damaged number) = refl
told_as OutOfMemory = refl

-- a desk that was not opened
pub not_served : {D : Type 0} (words : DiskWords D) (setup : Setup) (old : D) (refused : OpenRefused D) → IsNotOpened words setup old refused → (exit : Exit) → exit ≡ exit_of_open refused.fault
    → (script out : Stream) → IsUntouched script out → NotServed words (words.honest old) exit setup old refused.disk script out
not_served words setup old refused is exit same script out untouched = record {
  fault = refused.fault;
  told = subst (λ (e : Exit). IsOpenFaultOf e refused.fault) (sym same) (told_as refused.fault);
  damaged = is.damaged;
  crashes = is.crashes;
  untouched = untouched;
}
