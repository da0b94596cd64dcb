use Rattle.gt_machine.specs.Run.{run_of}
use Rattle.gt_setup.specs.Setup.{Setup}
use Rattle.std.proofs.Common.{Bool, Some, inl, inr, refl, subst, sym, ◌∙◌, ◌≡◌}
use Rattle.gt_desk.specs.Opening.{IsOpened}
use Rattle.transferd.proofs.ServedLemmas.{RunLaws, not_served, opened, opened_runs, served, start}
use Rattle.transferd.proofs.script.serve_script.Goals as goal
use Rattle.transferd.specs.Endings.{Stream, read_from, written_to}
use Rattle.transferd.specs.MainTheorem.{Ran}
use Rattle.gt_world.specs.World.{world_on}

pub returns-in-Ok-clause-theorem : goal.returns-in-Ok-clause-theorem
returns-in-Ok-clause-theorem g c =
    let w = g.D.Disk.words in
    let setup = c.args.setup in
    let old = c.args.disk in
    let desk = c.in-Ok.desk in
    let ended = c.run_script.result in
    let script : Stream = read_from g.T.Source.words c.args.script.now c.run_script.new.script in
    let out : Stream = written_to g.K.Sink.words c.args.out.now c.run_script.new.out in
    let same : desk.setup ≡ setup = c.in-Ok.ensures.setup in
    let kept = c.in-Ok.ensures.same in
    let laws : RunLaws setup = record { go_on = c.runs_go_on.ensures.run setup; one_run = c.lines_make_one_run.ensures setup; sound = c.histories_of_a_run_are_sound.ensures.sound setup; one_task = c.histories_of_a_run_are_sound.ensures.one_task setup } in
    let is : IsOpened w setup old desk = c.in-Ok.ensures.opened in
    let history = opened w setup old desk is kept laws in
    let ran = c.run_script.ensures.ran history (subst (λ (s : Setup). run_of s history ≡ Some desk.ledger.machine) (sym same) (opened_runs w setup old desk is kept laws)) (λ t. sym (is.history (sym kept.honest ∙ t))) in
    let world = world_on (start w setup old desk is kept laws) (w.faults desk.disk) in
    inl
    (served w setup old desk is kept laws c.acknowledged_events_stay_in_a_run.ensures ended.exit ended.disk script out
    (subst (λ (s : Setup). Ran w (w.honest old) ended.exit s world desk.disk ended.disk script out) same
    (subst (λ (b : Bool). Ran w b ended.exit desk.setup world desk.disk ended.disk script out) kept.honest ran)))

pub returns-in-Err-clause-theorem : goal.returns-in-Err-clause-theorem
returns-in-Err-clause-theorem g c =
    let script : Stream = read_from g.T.Source.words c.args.script.now c.args.script.now in
    let out : Stream = written_to g.K.Sink.words c.args.out.now c.args.out.now in
    inr (not_served g.D.Disk.words c.args.setup c.args.disk c.in-Err.refused c.in-Err.ensures.refused c.of_opening.result c.of_opening.ensures script out (record { unread = refl; unwritten = refl }))
