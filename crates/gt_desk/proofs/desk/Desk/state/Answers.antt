use Rattle.std.proofs.Common.{◌∙◌, ap, subst}
use Rattle.gt_causes.specs.Outcomes.{NoMore}
use Rattle.gt_desk.proofs.Standing.{stands_now}
use Rattle.gt_desk.specs.History.{Stands}
use Rattle.gt_desk.proofs.desk.Desk.state.Goals as goal

pub returns-clause-images : goal.returns-clause-images
returns-clause-images g c honest =
    let w = g.D.Disk.words in
    let i = c.self.inside in
    let there = ap (λ v. w.honest v.disk) c.self.view_is ∙ honest in
    subst (λ v. NoMore (Stands v.setup v.ledger) (w.may_leave v.disk)) c.self.view_is (stands_now w i.setup i.state i.doubt i.journal c.self.invariant there)
