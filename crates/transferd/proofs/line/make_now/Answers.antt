use Rattle.gt_script.specs.declared.line.Line.TheVariants.{Now}
use Rattle.std.proofs.Common.{[], rules, subst, ◌≡◌}
use Rattle.transferd.proofs.LineLemmas.{now_made}
use Rattle.transferd.proofs.line.make_now.Goals as goal
use Rattle.transferd.specs.Progress.{MadeLine}

pub returns-clause-made : goal.returns-clause-made
returns-clause-made g c start leads =
    let d = g.D.Disk in
    let session = c.args.session in
    let none : [] ≡ c.new.result.items = search rules in
    subst (λ t. MadeLine d.words (d.words.honest session.desk.disk) session.desk.setup (Now c.args.moment) start session.desk.disk (record session { now = c.args.moment }) t) none
    (now_made d.words g.met.D.Disk.laws session c.args.moment start leads)
