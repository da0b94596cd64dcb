use Rattle.std.proofs.Common.{rules, inl, subst, ◌∙◌, ◌≡◌}
use Rattle.std.specs.Prelude.{IsErr}
use Rattle.gt_desk.proofs.DeskCalls.{both, during_settled, gave_up, not_settled}
use Rattle.gt_desk.specs.History.{Stands, StandsDuring}
use Rattle.gt_disk.specs.Disk.{LeavesOnly}
use Rattle.gt_disk.specs.Moments.{joined, weaker}
use Rattle.gt_machine.specs.Answer.{answer_of}
use Rattle.gt_desk.proofs.desk.Desk.answer.Goals as goal

pub returns-in-Err-clause-call : goal.returns-in-Err-clause-call
returns-in-Err-clause-call g c =
    let v = c.args.self.now in
    let failed : IsErr c.settle.result = search rules in
    let un = c.settle.ensures.err failed in
    not_settled g.D.Disk.words (λ m. answer_of v.setup m c.args.identity.now c.args.command.now c.args.now) v c.settle.new.self un.0 un.1

pub returns-in-Ok-decide-clause-call : goal.returns-in-Ok-decide-clause-call
returns-in-Ok-decide-clause-call g c =
    let v = c.args.self.now in
    let m = c.settle.new.self in
    let n = c.carry_out.new.self in
    let decision = c.in-Ok-decide.decision in
    let is : decision ≡ answer_of v.setup m.ledger.machine c.args.identity.now c.args.command.now c.args.now =
    subst (λ s. decision ≡ answer_of s m.ledger.machine c.args.identity.now c.args.command.now c.args.now) c.settle.ensures.same.setup c.in-Ok-decide.ensures.answer in
    both g.D.Disk.words (λ s. answer_of v.setup s c.args.identity.now c.args.command.now c.args.now) v m n c.in-Ok.ensures.ok decision is c.carry_out.result c.carry_out.ensures.recorded c.settle.ensures.same.setup (λ t. c.settle.ensures.same.disk.honest ∙ t)

pub returns-in-Ok-decide-clause-any_moment : goal.returns-in-Ok-decide-clause-any_moment
returns-in-Ok-decide-clause-any_moment g c honest =
    let w = g.D.Disk.words in
    let v = c.args.self.now in
    let m = c.settle.new.self in
    let n = c.carry_out.new.self in
    let run = subst (λ s. LeavesOnly w m.disk n.disk (StandsDuring s m.ledger n.ledger)) c.settle.ensures.same.setup (c.carry_out.ensures.any_moment (c.settle.ensures.same.disk.honest ∙ honest)) in
    joined w v.disk m.disk n.disk (StandsDuring v.setup v.ledger n.ledger)
    (weaker w v.disk m.disk (Stands v.setup v.ledger) (StandsDuring v.setup v.ledger n.ledger) (λ f stands. inl stands) (c.settle.ensures.any_moment honest))
    (weaker w m.disk n.disk (StandsDuring v.setup m.ledger n.ledger) (StandsDuring v.setup v.ledger n.ledger) (during_settled w v.setup v m n.ledger c.in-Ok.ensures.ok honest) run)

pub returns-in-Err-decide-clause-call : goal.returns-in-Err-decide-clause-call
returns-in-Err-decide-clause-call g c =
    let v = c.args.self.now in
    gave_up g.D.Disk.words (λ m. answer_of v.setup m c.args.identity.now c.args.command.now c.args.now) v c.settle.new.self c.in-Ok.ensures.ok
