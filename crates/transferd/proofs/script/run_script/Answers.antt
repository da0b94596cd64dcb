use Rattle.gt_script.specs.Reading.{BeginsNoLine, BeginsWith, Refuses, Stops}
use Rattle.gt_script.specs.Script.{most_script_bytes}
use Rattle.gt_script.specs.TextFacts.{full_script}
use Rattle.gt_script.specs.declared.line.Line.TheVariants.{End}
use Rattle.gt_script.specs.declared.line.ScriptFault.TheVariants.{Refused}
use Rattle.gt_setup.specs.Setup.{Setup}
use Rattle.std.proofs.Common.{IsTrue, List, [], arith, refl, subst, ◌++◌, ◌+◌, ◌∙◌, ◌≡◌, ◌≢◌, ◌≤◌, ℕ}
use Rattle.transferd.proofs.CalmLemmas.{rose_within}
use Rattle.transferd.proofs.EndingLemmas.{begun, carried, done, more, not_read, refuses, stopped}
use Rattle.transferd.proofs.script.run_script.Goals as goal
use Rattle.transferd.specs.Endings.{Stream, read_from, written_to}
use Rattle.transferd.specs.Progress.{IsPresent, MadeLine, StoppedLine}
use Rattle.transferd.specs.Run.{world_at}
use Rattle.gt_world.specs.World.{World, world_on}

pub loop-taken-init : goal.loop-taken-init
loop-taken-init g c = record {
  disk = record { later = omega arith; honest = refl; loan = refl };
  source = record { later = omega arith; told = refl };
  sink = record { later = omega arith; told = refl };
  setup = refl;
  number = omega arith;
  fits = omega arith;
  so_far = λ history runs same.
      begun g.D.Disk.words g.met.D.Disk.laws (record { desk = c.args.desk; now = c.zero.result }) history runs same c.zero.ensures c.state.ensures.images
      (read_from g.T.Source.words c.args.script.now c.args.script.now) (written_to g.K.Sink.words c.args.out.now c.args.out.now) refl refl;
}

pub returns-in-Err-clause-ran : goal.returns-in-Err-clause-ran
returns-in-Err-clause-ran g c history runs same =
    let w = g.D.Disk.words in
    let l = c.loop-taken in
    let first = c.args.desk in
    let setup = first.setup in
    let honest = w.honest first.disk in
    let start = world_on (record first.ledger { history = history }) (w.faults first.disk) in
    let script : Stream = read_from g.T.Source.words c.args.script.now l.script in
    let out : Stream = written_to g.K.Sink.words c.args.out.now l.out in
    let so_far = l.invariant.so_far history runs same in
    let after = g.T.Source.words.left c.read_script_line.new.script in
    let fault = c.in-Err.fault in
    let opened = c.setup.ensures ∙ l.invariant.setup in
    let none : Refuses (l.ran + 1) (IsTrue script.told → BeginsNoLine setup l.taken script.after) fault = refuses (l.ran + 1) fault
    (λ none t. subst (λ (s : Setup). BeginsNoLine s l.taken script.after) opened (none (l.invariant.source.told ∙ t))) c.in-Err.ensures.refused in
    let stops : IsTrue script.told → Stops setup l.taken script.after after fault = λ t. subst (λ (s : Setup). Stops s l.taken script.after after fault) opened (c.in-Err.ensures.stopped (l.invariant.source.told ∙ t)).0 in
    not_read w honest setup start first.disk l.ran l.session l.taken script out so_far after (c.lines_end_with_their_text.ensures.none setup) (c.lines_end_with_their_text.ensures.last setup) fault c.stop.result.exit c.stop.result.disk (c.stop.ensures.exit ∙ c.exit_of_reading.ensures) c.stop.ensures.disk l.invariant.fits none stops

pub returns-in-Err-run_line-clause-ran : goal.returns-in-Err-run_line-clause-ran
returns-in-Err-run_line-clause-ran g c history runs same =
    let w = g.D.Disk.words in
    let l = c.loop-taken in
    let first = c.args.desk in
    let setup = first.setup in
    let honest = w.honest first.disk in
    let start = world_on (record first.ledger { history = history }) (w.faults first.disk) in
    let script : Stream = read_from g.T.Source.words c.args.script.now l.script in
    let out : Stream = written_to g.K.Sink.words c.args.out.now l.out in
    let so_far = l.invariant.so_far history runs same in
    let after = g.T.Source.words.left c.read_script_line.new.script in
    let written = g.K.Sink.words.taken c.run_line.new.out in
    let line = c.in-Ok.line in
    let through = c.read_script_line.new.taken in
    let begins : IsTrue script.told → BeginsWith setup line l.taken script.after after through = λ t. subst (λ (s : Setup). BeginsWith s line l.taken script.after after through) (c.setup.ensures ∙ l.invariant.setup) (c.in-Ok.ensures.line (l.invariant.source.told ∙ t)) in
    let ended = c.in-Err-run_line.stopped in
    let stop = carried
    (λ h s told. (world : World) → IsPresent w h s world l.session → StoppedLine w h ended.exit s line world l.session.desk.disk ended.disk (record { told = told; before = out.after; after = written }))
    (w.honest l.session.desk.disk) honest l.session.desk.setup setup (g.K.Sink.words.told l.out) out.told l.invariant.disk.honest l.invariant.setup l.invariant.sink.told c.in-Err-run_line.ensures.carried in
    stopped w honest setup start first.disk l.ran l.session l.taken script out so_far after line through begins written ended.exit ended.disk (stop (world_at start so_far.run) so_far.leads)

-- no line is stopped by the script, and a count that rose in it rose since the first line
pub returns-in-Err-run_line-clause-causes : goal.returns-in-Err-run_line-clause-causes
returns-in-Err-run_line-clause-causes g c =
    let d = g.D.Disk.words in
    let k = g.K.Sink.words in
    let l = c.loop-taken in
    let ended = c.in-Err-run_line.stopped in
    let cause = c.in-Err-run_line.ensures.cause in
    record {
      source = λ is. absurd (cause.no_source is);
      sink = λ is. rose_within (k.faults c.args.out.now) (k.faults l.out) (k.faults c.run_line.new.out) (k.faults c.run_line.new.out) l.invariant.sink.later (omega arith) (cause.output is);
      journal = λ is. rose_within (d.faults c.args.desk.disk) (d.faults l.session.desk.disk) (d.faults ended.disk) (d.faults ended.disk) l.invariant.disk.later (omega arith) (cause.journal is);
    }

pub returns-then-is_last-clause-ran : goal.returns-then-is_last-clause-ran
returns-then-is_last-clause-ran g c history runs same =
    let w = g.D.Disk.words in
    let l = c.loop-taken in
    let first = c.args.desk in
    let setup = first.setup in
    let honest = w.honest first.disk in
    let start = world_on (record first.ledger { history = history }) (w.faults first.disk) in
    let script : Stream = read_from g.T.Source.words c.args.script.now l.script in
    let out : Stream = written_to g.K.Sink.words c.args.out.now l.out in
    let so_far = l.invariant.so_far history runs same in
    let after = g.T.Source.words.left c.read_script_line.new.script in
    let written = g.K.Sink.words.taken c.run_line.new.out in
    let line = c.in-Ok.line in
    let through = c.read_script_line.new.taken in
    let begins : IsTrue script.told → BeginsWith setup line l.taken script.after after through = λ t. subst (λ (s : Setup). BeginsWith s line l.taken script.after after through) (c.setup.ensures ∙ l.invariant.setup) (c.in-Ok.ensures.line (l.invariant.source.told ∙ t)) in
    let next = c.in-Ok-run_line.next in
    let (print, made, wrote) = carried
    (λ h s told. (world : World) → IsPresent w h s world l.session
    → (text : List ℕ) × MadeLine w h s line world l.session.desk.disk next text × (IsTrue told → written ≡ out.after ++ text))
    (w.honest l.session.desk.disk) honest l.session.desk.setup setup (g.K.Sink.words.told l.out) out.told l.invariant.disk.honest l.invariant.setup l.invariant.sink.told c.in-Ok-run_line.ensures.carried (world_at start so_far.run) so_far.leads in
    done w honest setup start first.disk l.ran l.session l.taken script out so_far after line through begins written next print made wrote (c.is_end-is_last.ensures.0 c.if-is_last.true) c.stop-then-is_last.result.exit c.stop-then-is_last.ensures.exit c.stop-then-is_last.result.disk c.stop-then-is_last.ensures.disk

pub loop-taken-preserved : goal.loop-taken-preserved
loop-taken-preserved g c = record {
  disk = record {
    later = omega (arith, c.loop-taken.invariant.disk.later, c.in-Ok-run_line.ensures.same.later);
    honest = c.in-Ok-run_line.ensures.same.honest ∙ c.loop-taken.invariant.disk.honest;
    loan = c.in-Ok-run_line.ensures.same.loan ∙ c.loop-taken.invariant.disk.loan;
  };
  source = record {
    later = omega (arith, c.loop-taken.invariant.source.later, c.read_script_line.ensures.same.later);
    told = c.read_script_line.ensures.same.told ∙ c.loop-taken.invariant.source.told;
  };
  sink = record {
    later = omega (arith, c.loop-taken.invariant.sink.later, c.run_line.ensures.same_out.later);
    told = c.run_line.ensures.same_out.told ∙ c.loop-taken.invariant.sink.told;
  };
  setup = c.in-Ok-run_line.ensures.setup ∙ c.loop-taken.invariant.setup;
  number = omega (arith, c.loop-taken.invariant.number, c.in-Ok.ensures.ok.0);
  fits = omega (arith, c.in-Ok.ensures.ok.0, c.in-Ok.ensures.ok.1);
  so_far = λ history runs same.
      let w = g.D.Disk.words in
      let l = c.loop-taken in
      let first = c.args.desk in
      let setup = first.setup in
      let honest = w.honest first.disk in
      let start = world_on (record first.ledger { history = history }) (w.faults first.disk) in
      let script : Stream = read_from g.T.Source.words c.args.script.now l.script in
      let out : Stream = written_to g.K.Sink.words c.args.out.now l.out in
      let so_far = l.invariant.so_far history runs same in
      let after = g.T.Source.words.left c.read_script_line.new.script in
      let written = g.K.Sink.words.taken c.run_line.new.out in
      let line = c.in-Ok.line in
      let through = c.read_script_line.new.taken in
      let begins : IsTrue script.told → BeginsWith setup line l.taken script.after after through = λ t. subst (λ (s : Setup). BeginsWith s line l.taken script.after after through) (c.setup.ensures ∙ l.invariant.setup) (c.in-Ok.ensures.line (l.invariant.source.told ∙ t)) in
      let next = c.in-Ok-run_line.next in
      let (print, made, wrote) = carried
      (λ h s told. (world : World) → IsPresent w h s world l.session
      → (text : List ℕ) × MadeLine w h s line world l.session.desk.disk next text × (IsTrue told → written ≡ out.after ++ text))
      (w.honest l.session.desk.disk) honest l.session.desk.setup setup (g.K.Sink.words.told l.out) out.told l.invariant.disk.honest l.invariant.setup l.invariant.sink.told c.in-Ok-run_line.ensures.carried (world_at start so_far.run) so_far.leads in
      let other : line ≢ End = λ e. let never : ⊥ = cc (c.is_end-is_last.ensures.1 e, c.if-is_last.false) in never in
      more w honest setup start first.disk l.ran l.session l.taken script out so_far after line through begins written next print made wrote other;
}

pub returns-clause-ran : goal.returns-clause-ran
returns-clause-ran g c history runs same =
    let w = g.D.Disk.words in
    let l = c.loop-taken in
    let first = c.args.desk in
    let setup = first.setup in
    let honest = w.honest first.disk in
    let start = world_on (record first.ledger { history = history }) (w.faults first.disk) in
    let script : Stream = read_from g.T.Source.words c.args.script.now l.script in
    let out : Stream = written_to g.K.Sink.words c.args.out.now l.out in
    let so_far = l.invariant.so_far history runs same in
    let full : most_script_bytes ≤ l.taken = omega arith in
    not_read w honest setup start first.disk l.ran l.session l.taken script out so_far script.after (c.lines_end_with_their_text.ensures.none setup) (c.lines_end_with_their_text.ensures.last setup) (Refused (l.ran + 1)) c.stop-2.result.exit c.stop-2.result.disk c.stop-2.ensures.exit c.stop-2.ensures.disk l.invariant.fits (refl, λ t. full_script setup l.taken script.after full) (λ t. record { gone = []; whole = refl; unfinished = full_script setup l.taken [] full })
