use Rattle.std.proofs.Common.{rules, ◌∙◌, ◌≡◌, Some, ap, subst, sym}
use Rattle.std.specs.Prelude.{IfSome, IsErr}
use Rattle.gt_desk.proofs.JournalLemmas.{counted, kept_consistent, kept_settled, unsettled_consistent}
use Rattle.gt_desk.proofs.Standing.{stands_now, stands_with}
use Rattle.gt_desk.specs.Desk.{HasSettled, IsPending, desk_of, event_in, events_of}
use Rattle.gt_desk.specs.History.{Stands, StandsWith}
use Rattle.gt_disk.specs.Disk.{LeavesOnly}
use Rattle.gt_disk.specs.Moments.{weaker}
use Rattle.gt_journal.specs.JournalText.{IsTextWithDoubt}
use Rattle.gt_journal.specs.Calls.{Settles}
use Rattle.gt_machine.specs.Step.{step_of}
use Rattle.gt_desk.proofs.desk.Desk.settle.Goals as goal

pub returns-in_err-settle-clause-any_moment : goal.returns-in_err-settle-clause-any_moment
returns-in_err-settle-clause-any_moment g c honest =
    let w = g.D.Disk.words in
    let i = c.self.inside in
    let j = i.journal in
    let n = c.settle.new.self in
    let there = ap (λ v. w.honest v.disk) c.self.view_is ∙ honest in
    subst (λ v. LeavesOnly w v.disk n.disk (Stands v.setup v.ledger)) c.self.view_is
    (weaker w j.disk n.disk (IsTextWithDoubt j.bodies j.doubt) (StandsWith i.setup (events_of j.bodies) (event_in i.doubt))
    (stands_with w i.setup i.state i.doubt j c.self.invariant there) (c.settle.ensures.any_moment there))

pub invariant_of-self-in-Some : goal.invariant_of-self-in-Some
invariant_of-self-in-Some g c =
    let w = g.D.Disk.words in
    let i = c.self.inside in
    let j = i.journal in
    let n = c.settle.new.self in
    let was = c.self.invariant in
    let change = c.in-Some.change in
    let next = c.commit.new.self in
    let is : i.doubt ≡ Some change = sym c.take.ensures.value ∙ c.in-Some.is in
    let pending : IsPending i.setup i.state change = subst (λ o. IfSome o (IsPending i.setup i.state)) is was.pending in
    let step : step_of i.setup i.state.machine change.event ≡ Some next.machine = c.commit.ensures i.setup pending.planned in
    let more = counted i.setup i.state.machine next.machine change.event (c.runs_are_sound.ensures i.setup) was.reached step in
    let settles = subst (λ s. Settles w j s n) c.in-Kept.is c.in_ok-settle.ensures.ok in
    kept_consistent w i.setup i.state i.doubt j n was c.settle.ensures.same c.settle.ensures.images change is (c.record_text_reads_back.ensures change.event pending.recordable) settles next step more c.take.new.self c.take.ensures.after

pub returns-in-Some-clause-ok : goal.returns-in-Some-clause-ok
returns-in-Some-clause-ok g c =
    let w = g.D.Disk.words in
    let i = c.self.inside in
    let j = i.journal in
    let n = c.settle.new.self in
    let was = c.self.invariant in
    let change = c.in-Some.change in
    let next = c.commit.new.self in
    let is : i.doubt ≡ Some change = sym c.take.ensures.value ∙ c.in-Some.is in
    let pending : IsPending i.setup i.state change = subst (λ o. IfSome o (IsPending i.setup i.state)) is was.pending in
    let step : step_of i.setup i.state.machine change.event ≡ Some next.machine = c.commit.ensures i.setup pending.planned in
    let settles = subst (λ s. Settles w j s n) c.in-Kept.is c.in_ok-settle.ensures.ok in
    subst (λ v. HasSettled w v (desk_of i.setup next c.take.new.self n)) c.self.view_is
    (kept_settled w i.setup i.state i.doubt j n was c.settle.ensures.same c.settle.ensures.images change is (c.record_text_reads_back.ensures change.event pending.recordable) settles next step c.take.new.self c.take.ensures.after)

pub returns-in-Some-clause-any_moment : goal.returns-in-Some-clause-any_moment
returns-in-Some-clause-any_moment g c honest =
    let w = g.D.Disk.words in
    let i = c.self.inside in
    let j = i.journal in
    let n = c.settle.new.self in
    let there = ap (λ v. w.honest v.disk) c.self.view_is ∙ honest in
    subst (λ v. LeavesOnly w v.disk n.disk (Stands v.setup v.ledger)) c.self.view_is
    (weaker w j.disk n.disk (IsTextWithDoubt j.bodies j.doubt) (StandsWith i.setup (events_of j.bodies) (event_in i.doubt))
    (stands_with w i.setup i.state i.doubt j c.self.invariant there) (c.settle.ensures.any_moment there))

pub returns-in-Dropped-clause-any_moment : goal.returns-in-Dropped-clause-any_moment
returns-in-Dropped-clause-any_moment g c honest =
    let w = g.D.Disk.words in
    let i = c.self.inside in
    let j = i.journal in
    let n = c.settle.new.self in
    let there = ap (λ v. w.honest v.disk) c.self.view_is ∙ honest in
    subst (λ v. LeavesOnly w v.disk n.disk (Stands v.setup v.ledger)) c.self.view_is
    (weaker w j.disk n.disk (IsTextWithDoubt j.bodies j.doubt) (StandsWith i.setup (events_of j.bodies) (event_in i.doubt))
    (stands_with w i.setup i.state i.doubt j c.self.invariant there) (c.settle.ensures.any_moment there))

pub returns-in_err-settle-clause-images : goal.returns-in_err-settle-clause-images
returns-in_err-settle-clause-images g c =
    let w = g.D.Disk.words in
    let i = c.self.inside in
    let j = i.journal in
    let n = c.settle.new.self in
    let failed : IsErr c.settle.result = search rules in
    stands_now w i.setup i.state i.doubt n (unsettled_consistent w i.setup i.state i.doubt j n c.self.invariant c.settle.ensures.same c.settle.ensures.images (c.settle.ensures.err failed))

pub returns-in-Some-clause-images : goal.returns-in-Some-clause-images
returns-in-Some-clause-images g c =
    let w = g.D.Disk.words in
    let i = c.self.inside in
    let j = i.journal in
    let n = c.settle.new.self in
    let was = c.self.invariant in
    let change = c.in-Some.change in
    let next = c.commit.new.self in
    let is : i.doubt ≡ Some change = sym c.take.ensures.value ∙ c.in-Some.is in
    let pending : IsPending i.setup i.state change = subst (λ o. IfSome o (IsPending i.setup i.state)) is was.pending in
    let step : step_of i.setup i.state.machine change.event ≡ Some next.machine = c.commit.ensures i.setup pending.planned in
    let more = counted i.setup i.state.machine next.machine change.event (c.runs_are_sound.ensures i.setup) was.reached step in
    let settles = subst (λ s. Settles w j s n) c.in-Kept.is c.in_ok-settle.ensures.ok in
    stands_now w i.setup next c.take.new.self n
    (kept_consistent w i.setup i.state i.doubt j n was c.settle.ensures.same c.settle.ensures.images change is (c.record_text_reads_back.ensures change.event pending.recordable) settles next step more c.take.new.self c.take.ensures.after)
