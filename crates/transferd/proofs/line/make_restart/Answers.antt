use Rattle.gt_script.specs.declared.line.Line.TheVariants.{Restart}
use Rattle.std.proofs.Common.{refl, rules, subst, ◌≡◌}
use Rattle.transferd.proofs.LineLemmas.{not_printed, restart_made, restart_stopped}
use Rattle.transferd.proofs.line.make_restart.Goals as goal
use Rattle.transferd.specs.Output.{restart_text}
use Rattle.transferd.specs.Progress.{MadeLine}

pub returns-in-Ok-restart_line-clause-made : goal.returns-in-Ok-restart_line-clause-made
returns-in-Ok-restart_line-clause-made g c start leads =
    let d = g.D.Disk in
    let old = c.args.session in
    let call = c.in-Ok.ensures in
    let new = record old { desk = c.in-Ok.desk } in
    let text = c.in-Ok-restart_line.text.items in
    let made = restart_made d.words g.met.D.Disk.laws old new call.reopened call.same call.setup refl call.crash.0 call.crash.1 c.runs_go_on.ensures.run
    (λ history m runs. (c.runs_are_sound.ensures old.desk.setup history m runs).counted.events) start leads in
    let printed : restart_text new.desk.ledger.machine.events ≡ text = search rules in
    subst (λ t. MadeLine d.words (d.words.honest old.desk.disk) old.desk.setup Restart start old.desk.disk new t) printed made

pub returns-in-Err-restart_line-clause-made : goal.returns-in-Err-restart_line-clause-made
returns-in-Err-restart_line-clause-made g c start leads out wrote =
    let d = g.D.Disk in
    let old = c.args.session in
    let call = c.in-Ok.ensures in
    let new = record old { desk = c.in-Ok.desk } in
    let made = restart_made d.words g.met.D.Disk.laws old new call.reopened call.same call.setup refl call.crash.0 call.crash.1 c.runs_go_on.ensures.run
    (λ history m runs. (c.runs_are_sound.ensures old.desk.setup history m runs).counted.events) start leads in
    not_printed d.words (d.words.honest old.desk.disk) old.desk.setup Restart start old.desk.disk new (restart_text new.desk.ledger.machine.events) made c.stop.result.exit c.stop.ensures.exit c.stop.result.disk c.stop.ensures.disk out wrote

pub returns-in-Err-clause-made : goal.returns-in-Err-clause-made
returns-in-Err-clause-made g c start leads out wrote =
    let d = g.D.Disk in
    let old = c.args.session in
    let call = c.in-Err.ensures in
    restart_stopped d.words g.met.D.Disk.laws old c.in-Err.refused call.refused call.same call.cause start leads c.of_opening.result c.of_opening.ensures out wrote
