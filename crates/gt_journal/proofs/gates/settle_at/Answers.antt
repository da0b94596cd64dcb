use Rattle.std.proofs.Common.{◌≡◌, ℕ, List, ◌++◌, slice_index, if◌then◌else◌, ◌∙◌, sym, ap, subst, arith}
use Rattle.std.proofs.lemmas.Bool.{eq-eqb, ne_eqb}
use Rattle.gt_journal.specs.JournalText.{text}
use Rattle.gt_journal.specs.Gates.{Closed, Doubtful, InDoubt, IsGateAt}
use Rattle.gt_journal.proofs.Runs.{begins, and_read, and_run}
use Rattle.gt_journal.proofs.Steps.{gate_reads, kept, dropped}
use Rattle.gt_journal.proofs.gates.settle_at.Goals as goal

pub returns-in_err-set_gate-clause-any_moment : goal.returns-in_err-set_gate-clause-any_moment
returns-in_err-set_gate-clause-any_moment g c front body at =
    let d = g.D.Disk in
    let P = InDoubt front body in
    let looked = and_read d.words c.args.disk.now c.args.disk.now c.read.new.self P c.args.place _ _ _ (begins d.words g.met.D.Disk.laws c.args.disk.now P at.honest at.images) (c.read.ensures.told at.honest) in
    let still : IsGateAt d.words c.read.new.self c.args.place front P = record { honest = c.read.ensures.same.honest ∙ at.honest; is = at.is; images = looked.images } in
    and_run d.words c.args.disk.now c.read.new.self c.set_gate.new.disk P looked (c.set_gate.ensures.any_moment front body still)

pub returns-in_ok-sync-clause-ok : goal.returns-in_ok-sync-clause-ok
returns-in_ok-sync-clause-ok g c front body at f now =
    let d = g.D.Disk in
    let told = c.in_ok-read.ensures.told at.honest in
    let doubt = at.images (d.words.seen c.args.disk.now) (g.met.D.Disk.laws.reads_now c.args.disk.now at.honest) in
    let reads = told.ok ∙ gate_reads front c.args.place at.is body doubt.0 _ doubt.1 in
    let is_open : doubt.0 ≡ 1 = sym (ap (λ (l : List ℕ). slice_index l 0) reads) ∙ c.if-kept.true in
    let same : f ≡ d.words.seen c.args.disk.now = (c.in_ok-sync.ensures.told (c.read.ensures.same.honest ∙ at.honest)).durable f now ∙ told.seen in
    let whole : Doubtful front body 1 f = subst (λ file. Doubtful front body 1 file) (sym same) (subst (λ gate. Doubtful front body gate (d.words.seen c.args.disk.now)) is_open doubt.1) in
    subst (λ b. Closed (if b then front ++ text body else front) f) (sym (eq-eqb _ _ c.if-kept.true)) (kept front body f whole)

pub returns-in_ok-set_gate-clause-any_moment : goal.returns-in_ok-set_gate-clause-any_moment
returns-in_ok-set_gate-clause-any_moment g c front body at =
    let d = g.D.Disk in
    let P = InDoubt front body in
    let looked = and_read d.words c.args.disk.now c.args.disk.now c.read.new.self P c.args.place _ _ _ (begins d.words g.met.D.Disk.laws c.args.disk.now P at.honest at.images) (c.read.ensures.told at.honest) in
    let still : IsGateAt d.words c.read.new.self c.args.place front P = record { honest = c.read.ensures.same.honest ∙ at.honest; is = at.is; images = looked.images } in
    and_run d.words c.args.disk.now c.read.new.self c.set_gate.new.disk P looked (c.set_gate.ensures.any_moment front body still)

pub returns-in_ok-set_gate-clause-ok : goal.returns-in_ok-set_gate-clause-ok
returns-in_ok-set_gate-clause-ok g c front body at f now =
    let d = g.D.Disk in
    let images : (f : List ℕ) → d.words.may_leave c.read.new.self f → InDoubt front body f = λ f now. at.images f ((c.read.ensures.told at.honest).images f now) in
    let still : IsGateAt d.words c.read.new.self c.args.place front (InDoubt front body) = record { honest = c.read.ensures.same.honest ∙ at.honest; is = at.is; images = images } in
    subst (λ b. Closed (if b then front ++ text body else front) f) (sym (ne_eqb _ _ c.if-kept.false)) (dropped front body 0 f (omega arith) (c.in_ok-set_gate.ensures.ok front body still f now))
