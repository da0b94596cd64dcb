use Rattle.std.proofs.Common.{inr, subst, sym, rules, ◌∙◌, ◌≡◌}
use Rattle.gt_desk.proofs.Damages.{damaged_after, damaged_as, many_lists}
use Rattle.gt_journal.specs.Opening as journal
use Rattle.gt_journal.specs.Reading.{lists}
use Rattle.gt_desk.specs.Replay.{IsBadAs, Replays}
use Rattle.gt_desk.proofs.desk.refusal.Goals as goal

pub returns-in-Damaged-clause-damaged : goal.returns-in-Damaged-clause-damaged
returns-in-Damaged-clause-damaged c file damaged =
    let cut = subst (λ fault. journal.IsDamagedAs fault file) c.in-Damaged.is damaged in
    let same : c.deref.result.now ≡ c.in-Damaged.bodies.items = search rules in
    damaged_as c.args.setup.now (lists c.in-Damaged.bodies.items) file c.in-Err.fault
    (subst (λ bodies. IsBadAs c.args.setup.now (lists bodies) c.in-Err.fault) same c.in-Err.ensures.bad) (inr cut.1)

pub returns-in-Ok-clause-damaged : goal.returns-in-Ok-clause-damaged
returns-in-Ok-clause-damaged c file damaged =
    let cut = subst (λ fault. journal.IsDamagedAs fault file) c.in-Damaged.is damaged in
    let setup = c.args.setup.now in
    let bodies = c.in-Damaged.bodies.items in
    let machine = c.in-Ok.field-0.machine in
    let same : c.deref.result.now ≡ bodies = c.deref.ensures.value in
    damaged_after setup c.in-Damaged.at_record (lists bodies) machine file
    (subst (λ read. Replays setup (lists read) machine) same c.in-Ok.ensures.ok)
    (cut.0 ∙ sym (many_lists bodies)) cut.1
