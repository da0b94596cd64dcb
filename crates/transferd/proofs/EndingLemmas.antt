-- How a script's run goes on, and how it ends.
use Rattle.gt_causes.specs.Outcomes.{NoMore}
use Rattle.gt_desk.specs.Desk.{Stays}
use Rattle.gt_desk.specs.History.{Stands, StandsWith}
use Rattle.gt_disk.specs.Moments.{started}
use Rattle.gt_disk.specs.Disk.{DiskLaws, DiskWords}
use Rattle.gt_machine.specs.Run.{run_of}
use Rattle.gt_script.specs.Reading.{BeginsNoLine, BeginsWith, BreaksOff, EndsWithLine, Refuses, Stops, TakesOneLine}
use Rattle.gt_script.specs.Script.{EndsBehind, EndsWithNext, ScriptText, most_script_bytes}
use Rattle.gt_script.specs.TextFacts.{script_text_more}
use Rattle.gt_script.specs.declared.line.Line.{Line}
use Rattle.gt_script.specs.declared.line.Line.TheVariants.{End}
use Rattle.gt_script.specs.declared.line.ScriptFault.{ScriptFault}
use Rattle.gt_script.specs.declared.line.ScriptFault.TheVariants.{OutOfMemory as ReadOutOfMemory, Refused as ReadRefused, SourceFault as ReadSourceFault}
use Rattle.gt_setup.specs.Setup.{Setup}
use Rattle.gt_types.specs.declared.event.Event.{Event}
use Rattle.std.proofs.Common.{Bool, IsTrue, List, Some, [], ap, append-nil, append_assoc, arith, inl, inr, length, length-append, refl, subst, sym, ◌++◌, ◌+◌, ◌∙◌, ◌∷◌, ◌≡◌, ◌≢◌, ◌≤◌, ℕ}
use Rattle.gt_world.specs.CrashFacts.{crashes_append}
use Rattle.transferd.proofs.RunLemmas.{lines_of_more, out_text_more, script_run_more, steps_of_more, unended_more, world_at_more, world_at_steps}
use Rattle.gt_world.specs.Crashes.{CrashesKeep}
use Rattle.transferd.specs.Endings.{Stream, EndsAs, Gave, StopsIn, StopsLine}
use Rattle.transferd.specs.MainTheorem.{Ran}
use Rattle.transferd.specs.Output.{IsPart, line_output, out_text}
use Rattle.transferd.specs.Exits.{exit_of_read}
use Rattle.transferd.specs.Progress.{IsPresent, MadeLine, Progress, StoppedLine}
use Rattle.transferd.specs.Run.{IsUnended, Played, ScriptRun, lines_of, steps_of, world_at}
use Rattle.gt_world.specs.World.{Taken, World, world_on}
use Rattle.transferd.specs.declared.exit.Exit.{Exit}
use Rattle.transferd.specs.declared.exit.Exit.TheVariants.{Damaged, Done, JournalFault, OutOfMemory, SinkFault}
use Rattle.transferd.specs.declared.session.Session.{Session}

-- a run that stopped in a line ends so, as its exit says
ends_in : (exit : Exit) (setup : Setup) (start : World) (run : List Played) (last : List Taken) (script out : Stream) → StopsIn exit setup start run last script out → EndsAs exit setup start run last script out
ends_in SinkFault setup start run last script out stop = stop
ends_in JournalFault setup start run last script out stop = stop
ends_in (Damaged number) setup start run last script out stop = stop
ends_in OutOfMemory setup start run last script out stop = inr stop
ends_in exit setup start run last script out stop = absurd stop.stops

-- what was written before the line, in other words
stops_behind : (exit : Exit) (start : World) (line : Line) (steps : List Taken) (out : Stream) (before : List ℕ) → (IsTrue out.told → out.before ≡ before) → StopsLine exit start line steps out
    → StopsLine exit start line steps (record out { before = before })
stops_behind SinkFault start line steps out before same (makes, part) = (makes, λ t. subst (λ (b : List ℕ). IsPart (line_output start line steps) b out.after) (same t) (part t))
stops_behind JournalFault start line steps out before same (is, fails, none) = (is, fails, λ t. none t ∙ same t)
stops_behind (Damaged number) start line steps out before same (is, fails, none) = (is, fails, λ t. none t ∙ same t)
stops_behind OutOfMemory start line steps out before same (made, none) = (made, λ t. none t ∙ same t)
stops_behind exit start line steps out before same stops = absurd stops

-- what holds of a disk, a setup and a sink holds in other words for them
pub carried : (F : Bool → Setup → Bool → Type 0) (honest truth : Bool) (setup opened : Setup) (told telling : Bool) → honest ≡ truth → setup ≡ opened → told ≡ telling → F honest setup told → F truth opened telling
carried F honest truth setup opened told telling one two three holds =
    subst (λ (h : Bool). F h opened telling) one (subst (λ (s : Setup). F honest s telling) two (subst (λ (t : Bool). F honest setup t) three holds))

-- the ground of a refusal in other words
pub refuses : {P Q : Type 0} (number : ℕ) (fault : ScriptFault) → (P → Q) → Refuses number P fault → Refuses number Q fault
refuses number (ReadRefused line) on (is, ground) = (is, on ground)
refuses number ReadSourceFault on is = tt
refuses number ReadOutOfMemory on is = tt

-- before the first line
module _ {D : Type 0} (words : DiskWords D) (laws : DiskLaws words) (session : Session D) (history : List Event) (runs : run_of session.desk.setup history ≡ Some session.desk.ledger.machine)
    (same : IsTrue (words.honest session.desk.disk) → history ≡ session.desk.ledger.history) (zero : session.now ≡ 0) (images : Stays words session.desk) where
  abbrev first_world : World
  first_world = world_on (record session.desk.ledger { history = history }) (words.faults session.desk.disk)

  leads_first : IsPresent words (words.honest session.desk.disk) session.desk.setup first_world session
  leads_first = record {
    same_setup = refl;
    is = ap (λ (n : ℕ). record { ledger = first_world.ledger; moment = n; faults = first_world.faults }) (sym zero);
    runs = runs;
    history = same;
    images = λ t. subst (λ (h : List Event). NoMore (StandsWith session.desk.setup h session.desk.ledger.doubt) (words.may_leave session.desk.disk)) (sym (same t)) (images t);
  }

  pub begun : (script out : Stream) → script.after ≡ script.before → out.after ≡ out.before
      → Progress words (words.honest session.desk.disk) session.desk.setup first_world session.desk.disk 0 session 0 script out
  begun script out read written = record {
    run = [];
    lines = tt;
    unended = tt;
    count = refl;
    leads = leads_first;
    crashes = λ t. started words session.desk.disk (Stands session.desk.setup first_world.ledger) (λ c left. leads_first.images t c (laws.only_now session.desk.disk c t left));
    read = λ t. ([], refl, sym read, refl);
    written = λ t. written ∙ sym (append-nil out.before);
  }

module _ {D : Type 0} (words : DiskWords D) (honest : Bool) where
  module _ (setup : Setup) (start : World) (first : D) (number : ℕ) (session : Session D) (taken : ℕ) (script out : Stream) (so_far : Progress words honest setup start first number session taken script out) (after : List ℕ) where
    abbrev here : World
    here = world_at start so_far.run

    -- the run ends between two lines
    idle : (exit : Exit) → EndsAs exit setup start so_far.run [] (record script { after = after }) out → Ran words honest exit setup start first session.desk.disk (record script { after = after }) out
    idle exit ending = record {
      run = so_far.run;
      last = [];
      lines = so_far.lines;
      rest = tt;
      ending = ending;
      crashes = λ t. subst (λ steps. CrashesKeep words setup first start steps session.desk.disk) (sym (append-nil (steps_of so_far.run))) (so_far.crashes t);
      kept = so_far.leads.images;
      count = ap (λ (w : World). w.faults) so_far.leads.is;
    }

    -- the bytes given so far, and others behind them
    given : taken ≤ most_script_bytes → (text gone : List ℕ) → ScriptText setup (lines_of so_far.run) text → script.before ≡ text ++ script.after → length text ≡ taken → script.after ≡ gone ++ after
        → Gave setup (lines_of so_far.run) (record script { after = after }) gone
    given fits text gone is whole size off = record {
      taken = text ++ gone;
      whole = whole ∙ ap (λ s. text ++ s) off ∙ sym (append_assoc text gone after);
      reads = record { text = text; is_text = is; whole = refl; fits = omega (arith, fits, size) };
    }

    -- what stands behind the text of some lines says which line follows them
    module _ (none_follows : (lines : List Line) (text rest : List ℕ) → ScriptText setup lines text → BeginsNoLine setup (length text) rest → EndsBehind setup lines (text ++ rest))
        (last_follows : (lines : List Line) (text rest : List ℕ) → ScriptText setup lines text → EndsWithLine setup (length text) rest → EndsWithNext setup lines (text ++ rest)) where
      -- those of a line that breaks off
      gave : taken ≤ most_script_bytes → IsTrue script.told → (off : BreaksOff setup taken script.after after)
          → (beyond : List ℕ) × (given : Gave setup (lines_of so_far.run) (record script { after = after }) beyond) × EndsBehind setup (lines_of so_far.run) given.taken
      unfolding given
      gave fits t off =
          let (text, is, whole, size) = so_far.read t in (
            off.gone,
            given fits text off.gone is whole size off.whole,
            none_follows (lines_of so_far.run) text off.gone is (subst (λ n. BeginsNoLine setup n off.gone) (sym size) off.unfinished),
          )

      -- nothing behind one further line was taken
      gave_one : taken ≤ most_script_bytes → IsTrue script.told → (off : TakesOneLine setup taken script.after after)
          → (beyond : List ℕ) × (given : Gave setup (lines_of so_far.run) (record script { after = after }) beyond) × EndsWithNext setup (lines_of so_far.run) given.taken
      unfolding given
      gave_one fits t off =
          let (text, is, whole, size) = so_far.read t in (
            off.gone,
            given fits text off.gone is whole size off.whole,
            last_follows (lines_of so_far.run) text off.gone is (subst (λ n. EndsWithLine setup n off.gone) (sym size) off.at_most_one),
          )

      ended_between : (fault : ScriptFault) → taken ≤ most_script_bytes → Refuses (number + 1) (IsTrue script.told → BeginsNoLine setup taken script.after) fault → (IsTrue script.told → Stops setup taken script.after after fault)
          → EndsAs (exit_of_read fault) setup start so_far.run [] (record script { after = after }) out
      ended_between (ReadRefused line) fits (is, none) off = record {
        count = is ∙ ap (λ (n : ℕ). n + 1) (sym so_far.count);
        unended = so_far.unended;
        idle = refl;
        read = λ t.
            let (text, is, whole, size) = so_far.read t in
            let (beyond, given, ends) = gave fits t (off t) in
            ((beyond, given), subst (EndsBehind setup (lines_of so_far.run)) (sym whole) (none_follows (lines_of so_far.run) text script.after is (subst (λ n. BeginsNoLine setup n script.after) (sym size) (none t))));
        written = so_far.written;
      }
      ended_between ReadSourceFault fits none off = record { unended = so_far.unended; idle = refl; read = λ t. gave fits t (off t); written = so_far.written }
      ended_between ReadOutOfMemory fits none off = inl (record { unended = so_far.unended; idle = refl; read = λ t. gave_one fits t (off t); written = so_far.written })

      -- no line was read
      pub not_read : (fault : ScriptFault) (exit : Exit) (disk : D) → exit ≡ exit_of_read fault → disk ≡ session.desk.disk → taken ≤ most_script_bytes → Refuses (number + 1) (IsTrue script.told → BeginsNoLine setup taken script.after) fault
          → (IsTrue script.told → Stops setup taken script.after after fault) → Ran words honest exit setup start first disk (record script { after = after }) out
      not_read fault exit disk is same fits none off =
          subst (λ (x : Exit). Ran words honest x setup start first disk (record script { after = after }) out) (sym is)
          (subst (λ (x : D). Ran words honest (exit_of_read fault) setup start first x (record script { after = after }) out) (sym same)
          (idle (exit_of_read fault) (ended_between fault fits none off)))

    module _ (line : Line) (through : ℕ) (is : IsTrue script.told → BeginsWith setup line taken script.after after through) where
      -- the text with the line
      longer : IsTrue script.told → (text : List ℕ) × ScriptText setup (lines_of so_far.run ++ line ∷ []) text × (script.before ≡ text ++ after) × (length text ≡ through)
      longer t =
          let (text, so_read, whole, size) = so_far.read t in
          let begins = is t in (
            text ++ begins.text,
            script_text_more setup (lines_of so_far.run) line text begins.text so_read begins.is_text,
            whole ∙ ap (λ s. text ++ s) begins.whole ∙ sym (append_assoc text begins.text after),
            omega (arith, length-append text begins.text, size, begins.count),
          )

      gave_all : IsTrue script.told → Gave setup (lines_of so_far.run ++ line ∷ []) (record script { after = after }) []
      gave_all t =
          let (text, is_text, whole, size) = longer t in
          record { taken = text; whole = whole; reads = record { text = text; is_text = is_text; whole = sym (append-nil text); fits = omega (arith, size, (is t).fits) } }

      module _ (written : List ℕ) where
        -- what a crash leaves through the line
        crashes_on : (new : D) (steps : List Taken) → (IsTrue honest → CrashesKeep words setup session.desk.disk here steps new) → IsTrue honest → CrashesKeep words setup first start (steps_of so_far.run ++ steps) new
        crashes_on new steps keeps t =
            crashes_append words setup first session.desk.disk new start (steps_of so_far.run) steps (so_far.crashes t)
            (subst (λ w. CrashesKeep words setup session.desk.disk w steps new) (sym (world_at_steps start so_far.run)) (keeps t))

        -- the run stopped in the line
        pub stopped : (exit : Exit) (new : D) → StoppedLine words honest exit setup line here session.desk.disk new (record { told = out.told; before = out.after; after = written })
            → Ran words honest exit setup start first new (record script { after = after }) (record out { after = written })
        stopped exit new stop = record {
          run = so_far.run;
          last = stop.steps;
          lines = so_far.lines;
          rest = stop.run;
          ending = ends_in exit setup start so_far.run stop.steps (record script { after = after }) (record out { after = written }) (record {
            unended = so_far.unended;
            line = line;
            read = gave_all;
            stops = stops_behind exit here line stop.steps (record { told = out.told; before = out.after; after = written }) (out.before ++ out_text start so_far.run) so_far.written stop.stops;
          });
          crashes = crashes_on new stop.steps stop.crashes;
          kept = stop.kept;
          count = stop.count;
        }

        module _ (next : Session D) (print : List ℕ) (ran : MadeLine words honest setup line here session.desk.disk next print) (wrote : IsTrue out.told → written ≡ out.after ++ print) where
          abbrev played : Played
          played = record { line = line; steps = ran.steps }

          all_lines : ScriptRun setup honest start (so_far.run ++ played ∷ [])
          all_lines = script_run_more setup honest start so_far.run played so_far.lines ran.makes ran.run

          all_written : IsTrue out.told → written ≡ out.before ++ out_text start (so_far.run ++ played ∷ [])
          all_written t =
              wrote t
              ∙ ap (λ s. out.after ++ s) (sym ran.prints)
              ∙ ap (λ s. s ++ line_output here line ran.steps) (so_far.written t)
              ∙ append_assoc out.before (out_text start so_far.run) (line_output here line ran.steps)
              ∙ ap (λ s. out.before ++ s) (sym (out_text_more start so_far.run played))

          leads_on : IsPresent words honest setup (world_at start (so_far.run ++ played ∷ [])) next
          leads_on = subst (λ w. IsPresent words honest setup w next) (sym (world_at_more start so_far.run played)) ran.leads

          all_crashes : IsTrue honest → CrashesKeep words setup first start (steps_of (so_far.run ++ played ∷ [])) next.desk.disk
          all_crashes t = subst (λ steps. CrashesKeep words setup first start steps next.desk.disk) (sym (steps_of_more so_far.run played)) (crashes_on next.desk.disk ran.steps ran.crashes t)

          -- one line more, which isn't the end
          pub more : line ≢ End → Progress words honest setup start first (number + 1) next through (record script { after = after }) (record out { after = written })
          more other = record {
            run = so_far.run ++ played ∷ [];
            lines = all_lines;
            unended = subst IsUnended (sym (lines_of_more so_far.run played)) (unended_more (lines_of so_far.run) line so_far.unended other);
            count = omega (arith, length-append so_far.run (played ∷ []), so_far.count);
            leads = leads_on;
            crashes = all_crashes;
            read = λ t. subst (λ ls. (text : List ℕ) × ScriptText setup ls text × (script.before ≡ text ++ after) × (length text ≡ through)) (sym (lines_of_more so_far.run played)) (longer t);
            written = all_written;
          }

          -- the end
          pub done : line ≡ End → (exit : Exit) → exit ≡ Done → (disk : D) → disk ≡ next.desk.disk → Ran words honest exit setup start first disk (record script { after = after }) (record out { after = written })
          done end exit is disk same =
              subst (λ (e : Exit). Ran words honest e setup start first disk (record script { after = after }) (record out { after = written })) (sym is)
              (subst (λ (x : D). Ran words honest Done setup start first x (record script { after = after }) (record out { after = written })) (sym same) (record {
                run = so_far.run ++ played ∷ [];
                last = [];
                lines = all_lines;
                rest = tt;
                ending = record {
                  ended = (lines_of so_far.run, so_far.unended, lines_of_more so_far.run played ∙ ap (λ l. lines_of so_far.run ++ l ∷ []) end);
                  idle = refl;
                  read = λ t. subst (λ ls. Gave setup ls (record script { after = after }) []) (sym (lines_of_more so_far.run played)) (gave_all t);
                  written = all_written;
                };
                crashes = λ t. subst (λ steps. CrashesKeep words setup first start steps next.desk.disk) (sym (append-nil (steps_of (so_far.run ++ played ∷ [])))) (all_crashes t);
                kept = leads_on.images;
                count = ap (λ (w : World). w.faults) leads_on.is;
              }))
