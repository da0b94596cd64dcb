use Rattle.std.proofs.Common.{◌≡◌, subst, sym}
use Rattle.std.specs.Prelude.{IfOk, IsTrue}
use Rattle.gt_desk.proofs.Identities.{who_is}
use Rattle.gt_machine.specs.Answer.{answer_of}
use Rattle.gt_setup.specs.Setup.{has_identity}
use Rattle.gt_desk.proofs.desk.Desk.decide.Goals as goal

pub decide-requires-clause-known : goal.decide-requires-clause-known
decide-requires-clause-known g c =
    let i = c.self.inside in
    let same : c.in-Some.who.now.identity ≡ c.args.identity.now = who_is i.setup c.args.identity.now c.in-Some.who.now (sym c.in-Some.ensures) in
    subst (λ id. IsTrue (has_identity i.setup id)) (sym same) (subst (λ v. IsTrue (has_identity v.setup c.args.identity.now)) (sym c.self.view_is) c.requires.known)

pub returns-clause-answer : goal.returns-clause-answer
returns-clause-answer g c =
    let i = c.self.inside in
    let same : c.in-Some.who.now.identity ≡ c.args.identity.now = who_is i.setup c.args.identity.now c.in-Some.who.now (sym c.in-Some.ensures) in
    subst (λ v. IfOk c.decide.result (λ decision. decision ≡ answer_of v.setup v.ledger.machine c.args.identity.now c.args.command.now c.args.now)) c.self.view_is
    (subst (λ id. IfOk c.decide.result (λ decision. decision ≡ answer_of i.setup i.state.machine id c.args.command.now c.args.now)) same c.decide.ensures.answer)
