use Rattle.std.proofs.Common.{◌∙◌, sym, subst}
use Rattle.gt_journal.specs.Gates.{Doubtful, InDoubt}
use Rattle.gt_journal.proofs.GateWrites.{written_at_gate}
use Rattle.gt_journal.proofs.Runs.{and_sync}
use Rattle.gt_journal.proofs.Steps.{written_gate}
use Rattle.gt_journal.proofs.gates.set_gate.Goals as goal

pub returns-in_err-write_at-clause-any_moment : goal.returns-in_err-write_at-clause-any_moment
returns-in_err-write_at-clause-any_moment g c front body at =
    let d = g.D.Disk in written_at_gate d.words g.met.D.Disk.laws c.args.disk.now c.write_at.new.self c.args.place front body c.args.gate _ at (c.write_at.ensures.told at.honest)

pub returns-in_err-sync-clause-any_moment : goal.returns-in_err-sync-clause-any_moment
returns-in_err-sync-clause-any_moment g c front body at =
    let d = g.D.Disk in
    let wrote = written_at_gate d.words g.met.D.Disk.laws c.args.disk.now c.write_at.new.self c.args.place front body c.args.gate _ at (c.write_at.ensures.told at.honest) in
    and_sync d.words c.args.disk.now c.write_at.new.self c.sync.new.self (InDoubt front body) _ wrote (c.sync.ensures.told (c.write_at.ensures.same.honest ∙ at.honest))

pub returns-clause-ok : goal.returns-clause-ok
returns-clause-ok g c front body at f now =
    let d = g.D.Disk in
    let synced = c.in_ok-sync.ensures.told (c.write_at.ensures.same.honest ∙ at.honest) in
    let before = at.images (d.words.seen c.args.disk.now) (g.met.D.Disk.laws.reads_now c.args.disk.now at.honest) in
    subst (λ file. Doubtful front body c.args.gate file) (sym (synced.durable f now))
    (written_gate front c.args.place at.is body before.0 c.args.gate _ _ before.1 ((c.in_ok-write_at.ensures.told at.honest).ok))

pub returns-clause-any_moment : goal.returns-clause-any_moment
returns-clause-any_moment g c front body at =
    let d = g.D.Disk in
    let wrote = written_at_gate d.words g.met.D.Disk.laws c.args.disk.now c.write_at.new.self c.args.place front body c.args.gate _ at (c.write_at.ensures.told at.honest) in
    and_sync d.words c.args.disk.now c.write_at.new.self c.sync.new.self (InDoubt front body) _ wrote (c.sync.ensures.told (c.write_at.ensures.same.honest ∙ at.honest))
