-- The main theorem: what a script reads, prints and keeps is that of one run of its lines through the machine, whenever it stops,
-- and a crash at any moment leaves the run's history on the disk.
--
-- replies: the steps of each line are in Run.antt, what a step does in gt_world/specs/World.antt, and what a request is served
--   in gt_service/specs/Service.antt: the first refusal of the order in Grounds.antt there, or the machine's answer
-- bytes: those read and written in Endings.antt, what a line prints in Output.antt, and all of it where nothing fails in Calm.antt
-- crash: gt_world/specs/Crashes.antt, and the next script on the disk in Chain.antt
-- exit: how a run ends with each in Endings.antt, which one comes in Exits.antt, and a desk that isn't opened in Opening.antt
use Rattle.gt_causes.specs.Outcomes.{NoMore}
use Rattle.gt_desk.specs.Damage.{IsDamagedAs}
use Rattle.gt_desk.specs.History.{Ledger, Stands, StandsDuring, StandsFor}
use Rattle.gt_desk.specs.Opening.{Opens, opening_events}
use Rattle.gt_desk.specs.declared.fault.OpenFault.{OpenFault}
use Rattle.gt_disk.specs.Disk.{DiskWords}
use Rattle.gt_journal.specs.Opening.{HasSameBodies, IfSynced, OnceSynced}
use Rattle.gt_setup.specs.Setup.{Setup}
use Rattle.std.specs.Prelude.{Bool, IsTrue, List, ◌++◌, ◌≡◌, ◌≤◌, ◌⊎◌}
use Rattle.gt_world.specs.Crashes.{CrashesKeep, KeepsAcknowledged}
use Rattle.transferd.specs.Endings.{Stream, EndsAs}
use Rattle.transferd.specs.Opening.{IsNotRead, IsOpenFaultOf, IsRead, IsUntouched}
use Rattle.transferd.specs.Run.{Played, ScriptRun, steps_of, world_at}
use Rattle.gt_world.specs.SoundRuns.{AreSound, HaveOneTaskEach}
use Rattle.gt_world.specs.World.{Taken, World, WorldRun, world_after, world_on}
use Rattle.transferd.specs.declared.exit.Exit.{Exit}

-- over a disk
module _ {D : Type 0} (words : DiskWords D) (honest : Bool) where
  -- From this world the lines of a script ran, and at most one that was begun behind them was not finished.
  pub record Ran (exit : Exit) (setup : Setup) (start : World) (old new : D) (script out : Stream) : Type 0 where
    -- the lines that were carried out, and all that they print was written
    pub run : List Played
    -- the steps of the line that was not finished
    pub last : List Taken
    pub lines : ScriptRun setup honest start run
    pub rest : WorldRun setup honest (world_at start run) last
    pub ending : EndsAs exit setup start run last script out
    -- what a crash leaves at each moment, and behind the run
    pub crashes : IsTrue honest → CrashesKeep words setup old start (steps_of run ++ last) new
    pub kept : IsTrue honest → NoMore (Stands setup (world_after (world_at start run) last).ledger) (words.may_leave new)
    -- the count of the disk's faults at the end
    pub count : (world_after (world_at start run) last).faults ≡ words.faults new

  -- The desk was opened, and from there the lines of the script ran.
  pub record Served (exit : Exit) (setup : Setup) (old new : D) (script out : Stream) : Type 0 where
    -- what the journal's file stood for, and what opening it led to
    pub found : Ledger
    pub opened : Ledger
    pub file : IsTrue honest → StandsFor setup found.history (words.seen old)
    pub opens : Opens setup found opened
    pub history : opened.history ≡ found.history ++ opening_events found.machine
    -- the disk after the opening
    pub disk : D
    pub later : words.faults old ≤ words.faults disk
    pub opening : IsTrue honest → OnceSynced words old disk (StandsDuring setup found opened)
    pub ran : Ran exit setup (world_on opened (words.faults disk)) disk new script out
    -- each history of the run leads through sound states
    pub sound : AreSound setup (world_on opened (words.faults disk)) (steps_of ran.run ++ ran.last)
    -- in each of them an owner's submission identifier has made at most one task
    pub one_task_per_submission : HaveOneTaskEach setup (world_on opened (words.faults disk)) (steps_of ran.run ++ ran.last)
    -- nothing acknowledged is lost, through restarts too
    pub acknowledged : IsTrue honest → KeepsAcknowledged words setup disk (world_on opened (words.faults disk)) (steps_of ran.run ++ ran.last) new

  -- The desk was not opened, for this fault: once the file is on the disk, a crash leaves the same bodies.
  pub record NotServed (exit : Exit) (setup : Setup) (old new : D) (script out : Stream) : Type 0 where
    pub fault : OpenFault
    pub told : IsOpenFaultOf exit fault
    pub damaged : IsTrue honest → IsDamagedAs setup (words.seen old) fault
    pub crashes : IsTrue honest → IfSynced words old new (HasSameBodies (words.seen old))
    pub untouched : IsUntouched script out

  abbrev pub DeskTheorem : Exit → Setup → D → D → Stream → Stream → Type 0
  DeskTheorem exit setup old new script out = Served exit setup old new script out ⊎ NotServed exit setup old new script out

  abbrev pub MainTheorem : Exit → Stream → D → D → Stream → Stream → Type 0
  MainTheorem exit source old new script out =
      ((setup : Setup) × IsRead source setup × DeskTheorem exit setup old new script out)
      ⊎ (IsNotRead source exit × (new ≡ old) × IsUntouched script out)
