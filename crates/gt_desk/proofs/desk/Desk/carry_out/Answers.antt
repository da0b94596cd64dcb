use Rattle.std.proofs.Common.{Err, Ok, inl, subst, sym}
use Rattle.gt_desk.proofs.DeskCalls.{done_recorded, fault_recorded, said_recorded}
use Rattle.gt_desk.specs.Desk.{HasRecorded}
use Rattle.gt_desk.specs.History.{StandsDuring}
use Rattle.gt_disk.specs.Moments.{started}
use Rattle.gt_desk.proofs.desk.Desk.carry_out.Goals as goal

pub returns-in-Say-clause-recorded : goal.returns-in-Say-clause-recorded
returns-in-Say-clause-recorded g c =
    let w = g.D.Disk.words in
    let v = c.args.self.now in
    subst (λ d. HasRecorded w d v (Ok c.in-Say.answer) v) (sym c.in-Say.is) (said_recorded w c.in-Say.answer v c.requires.clear)

pub returns-in-Say-clause-any_moment : goal.returns-in-Say-clause-any_moment
returns-in-Say-clause-any_moment g c honest =
    let w = g.D.Disk.words in
    let v = c.args.self.now in
    started w v.disk (StandsDuring v.setup v.ledger v.ledger) (λ f left. inl (c.state.ensures.images honest f (g.met.D.Disk.laws.only_now v.disk f honest left)))

pub returns-in-Ok-clause-recorded : goal.returns-in-Ok-clause-recorded
returns-in-Ok-clause-recorded g c =
    let w = g.D.Disk.words in
    let v = c.args.self.now in
    let n = c.make.new.self in
    subst (λ d. HasRecorded w d v (Ok c.in-Do.answer) n) (sym c.in-Do.is) (done_recorded w c.in-Do.event c.in-Do.answer v n c.in-Ok.ensures.made)

pub returns-in-Err-clause-recorded : goal.returns-in-Err-clause-recorded
returns-in-Err-clause-recorded g c =
    let w = g.D.Disk.words in
    let v = c.args.self.now in
    let n = c.make.new.self in
    subst (λ d. HasRecorded w d v (Err c.in-Err.fault) n) (sym c.in-Do.is) (fault_recorded w c.in-Do.event c.in-Do.answer v n c.in-Err.fault c.in-Err.ensures.made)
