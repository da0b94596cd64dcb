use Rattle.gt_setup.specs.Grammar.{setup_of}
use Rattle.std.proofs.Common.{Err, Ok, ap, arith, inl, inr, length, refl, rules, subst, ◌<◌, ◌^◌, ◌≡◌}
use Rattle.transferd.proofs.CalmLemmas.{NotRose}
use Rattle.transferd.proofs.CalmScriptLemmas.{calm_script_served}
use Rattle.transferd.proofs.ExitLemmas.{complete_exit, exit_of_desk, exit_under_setup, exit_without_setup}
use Rattle.transferd.proofs.LentLemmas.{lent}
use Rattle.transferd.proofs.top.script_top.Goals as goal
use Rattle.transferd.specs.Calm.{IsCalm}
use Rattle.transferd.specs.Endings.{Stream, read_from, written_to}
use Rattle.transferd.specs.Exits.{HasCauses, faults_of, setup_read}
use Rattle.transferd.specs.MainTheorem.{MainTheorem}
use Rattle.transferd.specs.Opening.{IsNotRead}

pub returns-in-Ok-read_setup-clause-machine : goal.returns-in-Ok-read_setup-clause-machine
returns-in-Ok-read_setup-clause-machine g c form =
    let w = g.D.Disk.words in
    let old = c.args.disk.now in
    let ended = c.serve_script-ended.result in
    let source : Stream = read_from g.S.Source.words c.args.setup.now c.read_setup.new.source in
    let script : Stream = read_from g.T.Source.words c.args.script.now c.serve_script-ended.new.script in
    let out : Stream = written_to g.K.Sink.words c.args.out.now c.serve_script-ended.new.out in
    let holds = lent (λ a. a.now) (λ a. a.ghost_name) w (w.honest old) ended.exit c.in-Ok-read_setup.opened _ ended.disk script out c.serve_script-ended.ensures.theorem in
    subst (λ new. MainTheorem w (w.honest old) ended.exit source old new script out) (search rules) (inl (c.in-Ok-read_setup.opened, c.in-Ok-read_setup.ensures.ok, holds))

pub returns-in-Ok-read_setup-clause-causes : goal.returns-in-Ok-read_setup-clause-causes
returns-in-Ok-read_setup-clause-causes g c =
    let w = g.D.Disk.words in
    let causes = c.serve_script-ended.ensures.causes in
    subst
    (λ new. HasCauses c.serve_script-ended.result.exit (g.S.Source.words.faults c.args.setup.now) (g.S.Source.words.faults c.read_setup.new.source)
    (faults_of g.T.Source.words c.args.script.now g.K.Sink.words c.args.out.now w c.args.disk.now) (faults_of g.T.Source.words c.serve_script-ended.new.script g.K.Sink.words c.serve_script-ended.new.out w new)) (search rules)
    (record { source = λ fault. inr (causes.source fault); sink = causes.sink; journal = causes.journal })

pub returns-in-Ok-read_setup-clause-exact : goal.returns-in-Ok-read_setup-clause-exact
returns-in-Ok-read_setup-clause-exact g c form seen told honest exit is =
    let w = g.D.Disk.words in
    let old = c.args.disk.now in
    let ended = c.serve_script-ended.result in
    let source : Stream = read_from g.S.Source.words c.args.setup.now c.read_setup.new.source in
    let script : Stream = read_from g.T.Source.words c.args.script.now c.serve_script-ended.new.script in
    let out : Stream = written_to g.K.Sink.words c.args.out.now c.serve_script-ended.new.out in
    let opened = c.in-Ok-read_setup.opened in
    let setup = c.in-Ok-read_setup.ensures.ok in
    let few : length opened.collections < 2 ^ 32 = omega (arith, c.collections.ensures, c.collections.type_inv) in
    let holds = lent (λ a. a.now) (λ a. a.ghost_name) w (w.honest old) ended.exit opened _ ended.disk script out c.serve_script-ended.ensures.theorem in
    let comes = exit_under_setup source script.before (w.seen old) (c.one_exit_where_nothing_fails.ensures source.before script.before (w.seen old)) exit is setup.bytes opened setup.read setup.stands seen few ended.exit
    (λ all. exit_of_desk w (w.honest old) opened old ended.disk.now script out source.before all ended.exit holds told honest) in
    (comes, λ none. complete_exit exit ended.exit _ _ _ _ comes (returns-in-Ok-read_setup-clause-causes g c) none)

pub returns-clause-machine : goal.returns-clause-machine
returns-clause-machine g c form = inr (c.in-Err.ensures.err, refl, record { unread = refl; unwritten = refl })

pub returns-clause-causes : goal.returns-clause-causes
returns-clause-causes g c =
    let source : Stream = read_from g.S.Source.words c.args.setup.now c.read_setup.new.source in
    record {
      source = λ fault. inl (c.in-Err.ensures.cause (ap (λ e. Err e) fault));
      sink = λ fault. absurd (subst (λ e. IsNotRead source e) fault c.in-Err.ensures.err);
      journal = λ fault. absurd (subst (λ e. IsNotRead source e) fault c.in-Err.ensures.err);
    }

pub returns-clause-exact : goal.returns-clause-exact
returns-clause-exact g c form seen told honest exit is =
    let source : Stream = read_from g.S.Source.words c.args.setup.now c.read_setup.new.source in
    let script = g.T.Source.words.left c.args.script.now in
    let file = g.D.Disk.words.seen c.args.disk.now in
    let comes = exit_without_setup source script file (c.one_exit_where_nothing_fails.ensures source.before script file) exit is c.in-Err.exit c.in-Err.ensures.err seen in
    (comes, λ none. complete_exit exit c.in-Err.exit _ _ _ _ comes (returns-clause-causes g c) none)

pub returns-in-Ok-read_setup-clause-same : goal.returns-in-Ok-read_setup-clause-same
returns-in-Ok-read_setup-clause-same g c =
    let w = g.D.Disk.words in
    let ends = c.serve_script-ended.ensures in
    (c.read_setup.ensures.same, ends.same_script, ends.same_out, subst (λ new. w.honest new ≡ w.honest c.args.disk.now) (search rules) ends.same.honest)

pub returns-in-Ok-read_setup-clause-calm : goal.returns-in-Ok-read_setup-clause-calm
returns-in-Ok-read_setup-clause-calm g c done seen told out_told honest none =
    let w = g.D.Disk.words in
    let old = c.args.disk.now in
    let ended = c.serve_script-ended.result in
    let source : Stream = read_from g.S.Source.words c.args.setup.now c.read_setup.new.source in
    let script : Stream = read_from g.T.Source.words c.args.script.now c.serve_script-ended.new.script in
    let out : Stream = written_to g.K.Sink.words c.args.out.now c.serve_script-ended.new.out in
    let opened = c.in-Ok-read_setup.opened in
    let setup = c.in-Ok-read_setup.ensures.ok in
    let read : setup_of (setup_read source.before) ≡ Ok opened = subst (λ b. setup_of b ≡ Ok opened) (setup.read.all seen) setup.stands in
    let holds = lent (λ a. a.now) (λ a. a.ghost_name) w (w.honest old) ended.exit opened _ ended.disk script out c.serve_script-ended.ensures.theorem in
    subst (λ new. NotRose (w.faults old) (w.faults new) → IsCalm w source old new script out) (search rules)
    (λ quiet. calm_script_served w (w.honest old) opened (c.runs_go_on.ensures.run opened) (c.runs_without_faults_are_calm.ensures opened) source read ended.exit done old ended.disk.now script out told out_told honest quiet holds) none

pub returns-clause-calm : goal.returns-clause-calm
returns-clause-calm g c done seen told out_told honest none =
    let source : Stream = read_from g.S.Source.words c.args.setup.now c.read_setup.new.source in
    absurd (subst (λ e. IsNotRead source e) done c.in-Err.ensures.err)
