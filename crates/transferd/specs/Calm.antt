-- What the lines of a script print, and which events they add, where nothing fails and memory is never wanted.
use Rattle.gt_causes.specs.Outcomes.{NoMore}
use Rattle.gt_desk.specs.History.{StandsFor}
use Rattle.gt_desk.specs.Opening.{opening_events}
use Rattle.gt_disk.specs.Disk.{DiskWords}
use Rattle.gt_machine.specs.Answer.{answer_of}
use Rattle.gt_machine.specs.Decision.{events_in, said}
use Rattle.gt_machine.specs.MachineState.{MachineState, empty_state}
use Rattle.gt_machine.specs.Run.{run_of}
use Rattle.gt_machine.specs.TaskLine.{task_lines}
use Rattle.gt_requests.specs.declared.fault.RequestFault.{RequestFault}
use Rattle.gt_requests.specs.declared.fault.RequestFault.TheVariants.{OutOfMemory, Refused}
use Rattle.gt_requests.specs.declared.incoming.Incoming.{Incoming}
use Rattle.gt_script.specs.Script.{Reads}
use Rattle.gt_script.specs.declared.line.Line.{Line}
use Rattle.gt_script.specs.declared.line.Line.TheVariants.{End, Now, Restart, Send}
use Rattle.gt_service.specs.Service.{Response, reading_of, refusal_of, response_of}
use Rattle.gt_setup.specs.Grammar.{setup_of}
use Rattle.gt_setup.specs.Setup.{Setup}
use Rattle.gt_types.specs.declared.command.Command.{Command}
use Rattle.gt_types.specs.declared.event.Event.{Event}
use Rattle.gt_world.specs.World.{World}
use Rattle.std.specs.Option.{option_map_or}
use Rattle.std.specs.Prelude.{Err, List, None, Ok, Option, Result, Some, [], length, ◌++◌, ◌∷◌, ◌≡◌, ℕ}
use Rattle.transferd.specs.Endings.{Stream}
use Rattle.transferd.specs.Exits.{setup_read}
use Rattle.transferd.specs.Output.{out_text, response_text, restart_text, table_text}
use Rattle.transferd.specs.Run.{IsEnded, Played, incoming_of, lines_of, world_at}

-- the state that a history leads to, and the empty one where it leads to none
abbrev pub state_of : Setup → List Event → MachineState
state_of setup history = option_map_or (λ m. m) (run_of setup history) (empty_state setup.namespace)

-- how requests are read
abbrev pub Reader : Type 0
Reader = Incoming → Result (List ℕ × Command) RequestFault

-- what a request that is read so comes to on the history, at this moment: its response, and the events that it adds
abbrev pub decided : Setup → List Event → ℕ → Result (List ℕ × Command) RequestFault → Option Response × List Event
decided setup history moment (Ok request) =
    let decision = answer_of setup (state_of setup history) request.0 request.1 moment in
    (Some (response_of setup (said decision)), events_in decision)
decided setup history moment (Err (Refused code place)) = (Some (refusal_of code place), [])
-- no request is read so where memory isn't wanted
decided setup history moment (Err OutOfMemory) = (None, [])

-- the moment behind a line
abbrev pub moment_behind : ℕ → Line → ℕ
moment_behind moment (Now next) = next
moment_behind moment line = moment

module _ (reads : Reader) (setup : Setup) where
  -- the events that a line adds behind the history
  abbrev pub events_of : List Event → ℕ → Line → List Event
  events_of history moment End = []
  events_of history moment (Now next) = []
  events_of history moment (Send token method target body) = (decided setup history moment (reads (incoming_of token method target body))).1
  events_of history moment Restart = opening_events (state_of setup history)

  -- what a line prints
  abbrev pub text_of : List Event → ℕ → Line → List ℕ
  text_of history moment End = table_text (length history) (task_lines (state_of setup history))
  text_of history moment (Now next) = []
  text_of history moment (Send token method target body) = option_map_or response_text (decided setup history moment (reads (incoming_of token method target body))).0 []
  text_of history moment Restart = restart_text (length (history ++ opening_events (state_of setup history)))

  -- what lines print and which events they add, from this history and this moment on
  abbrev pub calm : List Event → ℕ → List Line → List ℕ × List Event
  calm history moment [] = ([], [])
  calm history moment (line ∷ rest) =
      let events = events_of history moment line in
      let behind = calm (history ++ events) (moment_behind moment line) rest in
      (text_of history moment line ++ behind.0, events ++ behind.1)

  -- the same, where the desk is opened on what stood for this history: the events of the opening come first
  abbrev pub calm_script : List Event → List Line → List ℕ × List Event
  calm_script history lines =
      let events = opening_events (state_of setup history) in
      let behind = calm (history ++ events) 0 lines in
      (behind.0, events ++ behind.1)

-- the world's history leads to its state, and no event is in doubt
pub record IsSettled (setup : Setup) (world : World) : Type 0 where
  pub runs : run_of setup world.ledger.history ≡ Some world.ledger.machine
  pub clear : world.ledger.doubt ≡ None

-- a run prints and adds what its lines do where nothing fails
pub record IsCalmRun (setup : Setup) (start : World) (run : List Played) : Type 0 where
  pub text : out_text start run ≡ (calm (reading_of setup) setup start.ledger.history start.moment (lines_of run)).0
  pub history : (world_at start run).ledger.history ≡ start.ledger.history ++ (calm (reading_of setup) setup start.ledger.history start.moment (lines_of run)).1
  pub settled : IsSettled setup (world_at start run)

-- of a script that ran through its end on a desk that was opened
pub record IsCalm {D : Type 0} (words : DiskWords D) (source : Stream) (old new : D) (script out : Stream) : Type 0 where
  -- the setup that the bytes of its source stand for, and the history that the journal's file stands for
  pub setup : Setup
  pub read : setup_of (setup_read source.before) ≡ Ok setup
  pub history : List Event
  pub file : StandsFor setup history (words.seen old)
  -- the lines of the script's bytes, through the end
  pub lines : List Line
  pub text : Reads setup lines script.before script.after
  pub ended : IsEnded lines
  -- what was written, and what a crash leaves from now on
  pub written : out.after ≡ out.before ++ (calm_script (reading_of setup) setup history lines).0
  pub kept : NoMore (StandsFor setup (history ++ (calm_script (reading_of setup) setup history lines).1)) (words.may_leave new)
