use Rattle.gt_machine.specs.TaskLine.{task_lines}
use Rattle.std.proofs.Common.{subst, sym, ◌≡◌}
use Rattle.transferd.proofs.LineLemmas.{end_made, idle_stopped}
use Rattle.transferd.proofs.line.make_end.Goals as goal
use Rattle.transferd.specs.Output.{table_text}
use Rattle.transferd.specs.Progress.{MadeLine}
use Rattle.gt_script.specs.declared.line.Line.TheVariants.{End}

pub returns-in-Ok-clause-made : goal.returns-in-Ok-clause-made
returns-in-Ok-clause-made g c start leads =
    let d = g.D.Disk in
    let session = c.args.session in
    let text = c.in-Ok.text.items in
    let is : text ≡ table_text session.desk.ledger.machine.events (task_lines session.desk.ledger.machine) =
    subst (λ m. text ≡ table_text m.events (task_lines m)) c.state.ensures.machine c.in-Ok.ensures in
    subst (λ t. MadeLine d.words (d.words.honest session.desk.disk) session.desk.setup End start session.desk.disk session t) (sym is)
    (end_made d.words g.met.D.Disk.laws session (λ history m runs. (c.runs_are_sound.ensures session.desk.setup history m runs).counted.events) start leads)

pub returns-in-Err-clause-made : goal.returns-in-Err-clause-made
returns-in-Err-clause-made g c start leads out wrote =
    let d = g.D.Disk in
    idle_stopped d.words g.met.D.Disk.laws c.args.session End c.stop.result.exit c.stop.ensures.exit c.stop.result.disk c.stop.ensures.disk start leads out wrote
