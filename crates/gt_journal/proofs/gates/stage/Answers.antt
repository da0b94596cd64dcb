use Rattle.std.proofs.Common.{◌+◌, ◌∙◌, sym, subst}
use Rattle.gt_disk.specs.Disk.{Holds}
use Rattle.gt_journal.specs.Gates.{Closed, Doubtful}
use Rattle.gt_journal.proofs.GateWrites.{written_behind_gate}
use Rattle.gt_journal.proofs.Runs.{and_sync}
use Rattle.gt_journal.proofs.Steps.{written_behind}
use Rattle.gt_journal.proofs.gates.stage.Goals as goal

pub returns-in_err-write_at-clause-any_moment : goal.returns-in_err-write_at-clause-any_moment
returns-in_err-write_at-clause-any_moment g c front at =
    let d = g.D.Disk in written_behind_gate d.words g.met.D.Disk.laws c.args.disk.now c.write_at.new.self c.args.place front c.args.bytes.now _ at (c.write_at.ensures.told at.honest)

pub returns-in_err-sync-clause-any_moment : goal.returns-in_err-sync-clause-any_moment
returns-in_err-sync-clause-any_moment g c front at =
    let d = g.D.Disk in
    let wrote = written_behind_gate d.words g.met.D.Disk.laws c.args.disk.now c.write_at.new.self c.args.place front c.args.bytes.now _ at (c.write_at.ensures.told at.honest) in
    and_sync d.words c.args.disk.now c.write_at.new.self c.sync.new.self (Closed front) _ wrote (c.sync.ensures.told (c.write_at.ensures.same.honest ∙ at.honest))

pub returns-clause-ok : goal.returns-clause-ok
returns-clause-ok g c front body at spelled f now =
    let d = g.D.Disk in
    let synced = c.in_ok-sync.ensures.told (c.write_at.ensures.same.honest ∙ at.honest) in
    let closed = at.images (d.words.seen c.args.disk.now) (g.met.D.Disk.laws.reads_now c.args.disk.now at.honest) in
    let holds = subst (λ bytes. Holds (d.words.seen c.args.disk.now) (c.args.place + 1) bytes (d.words.seen c.write_at.new.self)) spelled ((c.in_ok-write_at.ensures.told at.honest).ok) in
    (closed.gate, subst (λ file. Doubtful front body closed.gate file) (sym (synced.durable f now)) (written_behind front c.args.place at.is body _ _ closed holds))

pub returns-clause-any_moment : goal.returns-clause-any_moment
returns-clause-any_moment g c front at =
    let d = g.D.Disk in
    let wrote = written_behind_gate d.words g.met.D.Disk.laws c.args.disk.now c.write_at.new.self c.args.place front c.args.bytes.now _ at (c.write_at.ensures.told at.honest) in
    and_sync d.words c.args.disk.now c.write_at.new.self c.sync.new.self (Closed front) _ wrote (c.sync.ensures.told (c.write_at.ensures.same.honest ∙ at.honest))
