-- What the code has done of a script so far.
use Rattle.gt_causes.specs.Causes.{HasFailed}
use Rattle.gt_causes.specs.Outcomes.{NoMore}
use Rattle.gt_desk.specs.History.{Stands}
use Rattle.gt_disk.specs.Disk.{DiskWords}
use Rattle.gt_machine.specs.Run.{run_of}
use Rattle.gt_script.specs.Script.{ScriptText}
use Rattle.gt_script.specs.declared.line.Line.{Line}
use Rattle.gt_setup.specs.Setup.{Setup}
use Rattle.gt_streams.specs.Streams.{SinkWords}
use Rattle.gt_types.specs.declared.event.Event.{Event}
use Rattle.std.specs.Prelude.{Bool, Err, IsTrue, List, Ok, Result, Some, length, ◌++◌, ◌≡◌, ◌≢◌, ℕ}
use Rattle.gt_world.specs.Crashes.{CrashesKeep}
use Rattle.transferd.specs.Endings.{Stream, StopsLine}
use Rattle.transferd.specs.Output.{line_output, out_text}
use Rattle.transferd.specs.Run.{IsUnended, Makes, Played, ScriptRun, lines_of, steps_of, world_at}
use Rattle.gt_world.specs.World.{Taken, World, WorldRun, world_after}
use Rattle.transferd.specs.declared.exit.Exit.{Exit}
use Rattle.transferd.specs.declared.exit.Exit.TheVariants.{JournalFault, SinkFault, SourceFault}
use Rattle.transferd.specs.declared.session.Ended.{Ended}
use Rattle.transferd.specs.declared.session.Made.{Made}
use Rattle.transferd.specs.declared.session.Session.{Session}

-- the disk that comes back from a line
abbrev pub disk_of_made : {D : Type 0} → Result (Made D) (Ended D) → D
disk_of_made (Ok made) = made.session.desk.disk
disk_of_made (Err ended) = ended.disk

abbrev pub disk_of_line : {D : Type 0} → Result (Session D) (Ended D) → D
disk_of_line (Ok session) = session.desk.disk
disk_of_line (Err ended) = ended.disk

-- the world that a session stands for, on this history
abbrev pub world_of : {D : Type 0} → DiskWords D → Session D → List Event → World
world_of words session history =
    record {
      ledger = record session.desk.ledger { history = history };
      moment = session.now;
      faults = words.faults session.desk.disk;
    }

-- a line failed by a fault of the disk only where that was counted, and not by the output or the script
pub record HasMakingCause {D : Type 0} (words : DiskWords D) (old : D) (ended : Ended D) : Type 0 where
  pub journal : ended.exit ≡ JournalFault → HasFailed words.faults old ended.disk
  pub no_sink : ended.exit ≢ SinkFault
  pub no_source : ended.exit ≢ SourceFault

-- a line stopped by a fault of a device only where that was counted, and not by the script
pub record HasLineCause {D K : Type 0} (words : DiskWords D) (old : D) (sink : SinkWords K) (out new_out : K) (ended : Ended D) : Type 0 where
  pub journal : ended.exit ≡ JournalFault → HasFailed words.faults old ended.disk
  pub output : ended.exit ≡ SinkFault → HasFailed sink.faults out new_out
  pub no_source : ended.exit ≢ SourceFault

module _ {D : Type 0} (words : DiskWords D) (honest : Bool) where
  -- the session is that of the world: its history leads to the machine's state, and is the desk's where the disk is honest
  pub record IsPresent (setup : Setup) (world : World) (session : Session D) : Type 0 where
    pub same_setup : session.desk.setup ≡ setup
    pub is : world ≡ world_of words session world.ledger.history
    pub runs : run_of setup world.ledger.history ≡ Some session.desk.ledger.machine
    pub history : IsTrue honest → world.ledger.history ≡ session.desk.ledger.history
    pub images : IsTrue honest → NoMore (Stands setup world.ledger) (words.may_leave session.desk.disk)

  -- a whole line: its steps, the session that they lead to, what a crash leaves meanwhile, and what it prints
  pub record MadeLine (setup : Setup) (line : Line) (start : World) (old : D) (session : Session D) (text : List ℕ) : Type 0 where
    pub steps : List Taken
    pub makes : Makes line steps
    pub run : WorldRun setup honest start steps
    pub leads : IsPresent setup (world_after start steps) session
    pub crashes : IsTrue honest → CrashesKeep words setup old start steps session.desk.disk
    pub prints : line_output start line steps ≡ text

  -- a line that the run stopped in
  pub record StoppedLine (exit : Exit) (setup : Setup) (line : Line) (start : World) (old new : D) (out : Stream) : Type 0 where
    pub steps : List Taken
    pub run : WorldRun setup honest start steps
    pub crashes : IsTrue honest → CrashesKeep words setup old start steps new
    pub kept : IsTrue honest → NoMore (Stands setup (world_after start steps).ledger) (words.may_leave new)
    pub count : (world_after start steps).faults ≡ words.faults new
    pub stops : StopsLine exit start line steps out

  -- so many lines have run, none of them the end, and their texts have that many bytes
  pub record Progress (setup : Setup) (start : World) (first : D) (number : ℕ) (session : Session D) (taken : ℕ) (script out : Stream) : Type 0 where
    pub run : List Played
    pub lines : ScriptRun setup honest start run
    pub unended : IsUnended (lines_of run)
    pub count : length run ≡ number
    pub leads : IsPresent setup (world_at start run) session
    pub crashes : IsTrue honest → CrashesKeep words setup first start (steps_of run) session.desk.disk
    pub read : IsTrue script.told → (text : List ℕ) × ScriptText setup (lines_of run) text × (script.before ≡ text ++ script.after) × (length text ≡ taken)
    pub written : IsTrue out.told → out.after ≡ out.before ++ out_text start run

-- From each world that the session stands for: the line was made, with the text that it prints; or the run stopped in it, and
-- nothing was written.
abbrev pub MakesLine : {D : Type 0} → DiskWords D → Line → Session D → Result (Made D) (Ended D) → Type 0
MakesLine words line old (Ok made) =
    (start : World) → IsPresent words (words.honest old.desk.disk) old.desk.setup start old
    → MadeLine words (words.honest old.desk.disk) old.desk.setup line start old.desk.disk made.session made.text.items
MakesLine words line old (Err ended) =
    (start : World) → IsPresent words (words.honest old.desk.disk) old.desk.setup start old
    → (out : Stream) → out.after ≡ out.before
    → StoppedLine words (words.honest old.desk.disk) ended.exit old.desk.setup line start old.desk.disk ended.disk out

-- From each world that the session stands for: the line was made, and what it prints was written; or the run stopped in it.
abbrev pub CarriesOut : {D : Type 0} → DiskWords D → Line → Session D → Result (Session D) (Ended D) → Stream → Type 0
CarriesOut words line old (Ok session) out =
    (start : World) → IsPresent words (words.honest old.desk.disk) old.desk.setup start old
    → (text : List ℕ) × MadeLine words (words.honest old.desk.disk) old.desk.setup line start old.desk.disk session text
    × (IsTrue out.told → out.after ≡ out.before ++ text)
CarriesOut words line old (Err ended) out =
    (start : World) → IsPresent words (words.honest old.desk.disk) old.desk.setup start old
    → StoppedLine words (words.honest old.desk.disk) ended.exit old.desk.setup line start old.desk.disk ended.disk out
