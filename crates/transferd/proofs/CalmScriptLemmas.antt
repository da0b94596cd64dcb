-- A script that ran through its end while no fault of the disk was counted is calm.
use Rattle.gt_desk.specs.History.{StandsFor, Stands, StandsWith}
use Rattle.gt_desk.specs.Opening.{opening_events}
use Rattle.gt_causes.specs.Outcomes.{NoMore}
use Rattle.gt_disk.specs.Disk.{DiskWords}
use Rattle.gt_machine.specs.MachineState.{empty_state}
use Rattle.gt_machine.specs.Run.{run_of}
use Rattle.gt_service.specs.Service.{reading_of}
use Rattle.gt_setup.specs.Grammar.{setup_of}
use Rattle.gt_setup.specs.Setup.{Setup}
use Rattle.gt_types.specs.declared.event.Event.{Event}
use Rattle.gt_world.specs.World.{Taken, World, world_after, world_on}
use Rattle.std.proofs.Common.{Bool, IsTrue, List, Ok, Some, [], ap, append-nil, append_assoc, subst, sym, ⊎_elim, ◌++◌, ◌∙◌, ◌≡◌, ◌≤◌, ℕ}
use Rattle.std.proofs.Math.Nat.{le_refl}
use Rattle.transferd.proofs.CalmLemmas.{GoesOn, NotRose, rose_within, state_is}
use Rattle.transferd.specs.Calm.{IsCalm, IsCalmRun, IsSettled, calm, state_of}
use Rattle.transferd.specs.Endings.{Ends, EndsAs, Gave, Stream}
use Rattle.transferd.specs.Exits.{setup_read}
use Rattle.transferd.specs.MainTheorem.{DeskTheorem, Served}
use Rattle.transferd.specs.Opening.{IsOpenFaultOf}
use Rattle.transferd.specs.Run.{Played, ScriptRun, lines_of, world_at}
use Rattle.transferd.specs.declared.exit.Exit.{Exit}
use Rattle.transferd.specs.declared.exit.Exit.TheVariants.{Done}

-- what is said of runs of lines
abbrev pub CalmLaw : Setup → Type 0
CalmLaw setup = (honest : Bool) (start : World) (run : List Played) → IsTrue honest → IsSettled setup start → ScriptRun setup honest start run → NotRose start.faults (world_at start run).faults → IsCalmRun setup start run

module _ {D : Type 0} (words : DiskWords D) (honest : Bool) (setup : Setup) (go_on : GoesOn setup) (law : CalmLaw setup) (source : Stream) (read : setup_of (setup_read source.before) ≡ Ok setup)
    (exit : Exit) (done : exit ≡ Done) (old new : D) (script out : Stream) (told : IsTrue script.told) (out_told : IsTrue out.told) (t : IsTrue honest) (none : NotRose (words.faults old) (words.faults new)) where
  calm_served : Served words honest exit setup old new script out → IsCalm words source old new script out
  calm_served s =
      let ran = s.ran in
      let start = world_on s.opened (words.faults s.disk) in
      let last = world_at start ran.run in
      let found = s.found.history in
      let ends : Ends setup start ran.run ran.last script out = subst (λ e. EndsAs e setup start ran.run ran.last script out) done ran.ending in
      let at_end : world_after last ran.last ≡ last = ap (λ (l : List Taken). world_after last l) ends.idle in
      let count : last.faults ≡ words.faults new = ap (λ (w : World). w.faults) (sym at_end) ∙ ran.count in
      let settled : IsSettled setup start = record {
        runs = subst (λ h. run_of setup h ≡ Some s.opened.machine) (sym s.history)
            (go_on (empty_state setup.namespace) s.found.machine s.opened.machine found (opening_events s.found.machine) s.opens.found_runs s.opens.moves);
        clear = s.opens.clear;
      } in
      let is : IsCalmRun setup start ran.run = law honest start ran.run t settled ran.lines
      (λ rose. none (rose_within (words.faults old) (words.faults s.disk) last.faults (words.faults new) s.later (subst (λ n. last.faults ≤ n) count (le_refl last.faults)) rose)) in
      let lines = lines_of ran.run in
      let events = opening_events (state_of setup found) in
      let opened : s.opened.history ≡ found ++ events = s.history ∙ ap (λ m. found ++ opening_events m) (sym (state_is setup found s.found.machine s.opens.found_runs)) in
      let same : calm (reading_of setup) setup s.opened.history 0 lines ≡ calm (reading_of setup) setup (found ++ events) 0 lines = ap (λ h. calm (reading_of setup) setup h 0 lines) opened in
      let added = (calm (reading_of setup) setup (found ++ events) 0 lines).1 in
      let history : last.ledger.history ≡ found ++ (events ++ added) =
      is.history ∙ ap (λ h. h ++ (calm (reading_of setup) setup s.opened.history 0 lines).1) opened ∙ ap (λ (it : List ℕ × List Event). (found ++ events) ++ it.1) same ∙ append_assoc found events added in
      let gave : Gave setup lines script [] = ends.read told in
      let stands : NoMore (Stands setup last.ledger) (words.may_leave new) = subst (λ (w : World). NoMore (Stands setup w.ledger) (words.may_leave new)) at_end (ran.kept t) in
      let clear : NoMore (StandsFor setup last.ledger.history) (words.may_leave new) = subst (λ d. NoMore (StandsWith setup last.ledger.history d) (words.may_leave new)) is.settled.clear stands in
      record {
        setup = setup;
        read = read;
        history = found;
        file = s.file t;
        lines = lines;
        text = record {
          text = gave.reads.text;
          is_text = gave.reads.is_text;
          whole = gave.whole ∙ ap (λ b. b ++ script.after) (gave.reads.whole ∙ append-nil gave.reads.text);
          fits = gave.reads.fits;
        };
        ended = ends.ended;
        written = ends.written out_told ∙ ap (λ b. out.before ++ b) (is.text ∙ ap (λ (it : List ℕ × List Event). it.0) same);
        kept = subst (λ h. NoMore (StandsFor setup h) (words.may_leave new)) history clear;
      }

  pub calm_script_served : DeskTheorem words honest exit setup old new script out → IsCalm words source old new script out
  unfolding calm_served
  calm_script_served is = ⊎_elim (λ s. calm_served s) (λ refused. absurd (subst (λ e. IsOpenFaultOf e refused.fault) done refused.told)) is
