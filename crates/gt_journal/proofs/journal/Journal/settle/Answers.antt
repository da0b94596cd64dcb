-- Hard here: a body that was in doubt is in the buffer still, and the gate that was read says which files may be left.
use Rattle.std.proofs.Common.{◌≡◌, ◌≢◌, ℕ, ◌+◌, List, ◌++◌, true, false, None, Some, take, drop, slice_index, if◌then◌else◌, refl, sym, ◌∙◌, ap, subst}
use Rattle.std.specs.Prelude.{IsTrue}
use Rattle.std.proofs.lemmas.Bool.{eqb-true, eqb-false}
use Rattle.gt_causes.specs.Outcomes.{NoMore}
use Rattle.gt_disk.specs.Disk.{LeavesOnly}
use Rattle.gt_journal.specs.JournalText.{text, IsTextWithDoubt}
use Rattle.gt_journal.specs.Gates.{Closed, InDoubt, IsGateAt}
use Rattle.gt_journal.specs.Journal.{journal_of, IsConsistent, Rests}
use Rattle.gt_journal.specs.Calls.{IsUnsettled, Settles}
use Rattle.gt_journal.specs.declared.settled.Settled.TheVariants.{Kept, Dropped}
use Rattle.gt_journal.proofs.Settlings as settle
use Rattle.gt_journal.proofs.Standings.{rests}
use Rattle.gt_journal.proofs.journal.Journal.settle.Goals as goal

pub returns-in_default-clause-images : goal.returns-in_default-clause-images
returns-in_default-clause-images g c =
    let inside = c.self.inside in
    subst (λ v. Rests g.D.Disk.words v) c.self.view_is (rests g.D.Disk.words inside.disk inside.place inside.pending inside.buffer.items c.self.invariant)

pub settle_at-requires-clause-place : goal.settle_at-requires-clause-place
settle_at-requires-clause-place g c honest =
    let d = g.D.Disk in
    let laws = g.met.D.Disk.laws in
    let inside = c.self.inside in
    let place = inside.place in
    let buffer = inside.buffer.items in
    let size = c.in-Some.size in
    let was = subst (λ p. IsConsistent d.words inside.disk place p buffer) c.in-Some.is c.self.invariant in
    let view = ap (λ p. journal_of d.words inside.disk place p buffer) (sym c.in-Some.is) ∙ c.self.view_is in
    (take place (d.words.seen inside.disk), take size (drop 8 buffer), settle.gate_doubtful d.words laws inside.disk place size buffer was honest)

pub invariant_of-self : goal.invariant_of-self
invariant_of-self g c =
    let d = g.D.Disk in
    let laws = g.met.D.Disk.laws in
    let inside = c.self.inside in
    let place = inside.place in
    let buffer = inside.buffer.items in
    let size = c.in-Some.size in
    let was = subst (λ p. IsConsistent d.words inside.disk place p buffer) c.in-Some.is c.self.invariant in
    let view = ap (λ p. journal_of d.words inside.disk place p buffer) (sym c.in-Some.is) ∙ c.self.view_is in
    let new = c.settle_at.new.disk in
    subst (λ p. IsConsistent d.words new place p buffer) (sym c.in-Some.is) (settle.unsettled_consistent d.words laws inside.disk place size buffer was new c.settle_at.ensures.same.honest c.settle_at.ensures.any_moment)

pub returns-in_err-settle_at-clause-err : goal.returns-in_err-settle_at-clause-err
returns-in_err-settle_at-clause-err g c failed =
    let d = g.D.Disk in
    let laws = g.met.D.Disk.laws in
    let inside = c.self.inside in
    let place = inside.place in
    let buffer = inside.buffer.items in
    let size = c.in-Some.size in
    let was = subst (λ p. IsConsistent d.words inside.disk place p buffer) c.in-Some.is c.self.invariant in
    let view = ap (λ p. journal_of d.words inside.disk place p buffer) (sym c.in-Some.is) ∙ c.self.view_is in
    let new = c.settle_at.new.disk in
    subst (λ p. IsUnsettled d.words c.args.self.now (journal_of d.words new place p buffer)) (sym c.in-Some.is)
    (subst (λ v. IsUnsettled d.words v (journal_of d.words new place (Some size) buffer)) view (settle.unsettled d.words laws inside.disk place size buffer was new c.settle_at.ensures.same.honest c.settle_at.ensures.any_moment))

pub returns-in_err-settle_at-clause-any_moment : goal.returns-in_err-settle_at-clause-any_moment
returns-in_err-settle_at-clause-any_moment g c honest =
    let d = g.D.Disk in
    let laws = g.met.D.Disk.laws in
    let inside = c.self.inside in
    let place = inside.place in
    let buffer = inside.buffer.items in
    let size = c.in-Some.size in
    let was = subst (λ p. IsConsistent d.words inside.disk place p buffer) c.in-Some.is c.self.invariant in
    let view = ap (λ p. journal_of d.words inside.disk place p buffer) (sym c.in-Some.is) ∙ c.self.view_is in
    let new = c.settle_at.new.disk in
    subst (λ v. LeavesOnly d.words v.disk new (IsTextWithDoubt v.bodies v.doubt)) view (settle.settle_moments d.words laws inside.disk place size buffer was new c.settle_at.ensures.same.honest c.settle_at.ensures.any_moment (ap (λ v. d.words.honest v.disk) c.self.view_is ∙ honest))

pub returns-in_err-settle_at-clause-images : goal.returns-in_err-settle_at-clause-images
returns-in_err-settle_at-clause-images g c =
    let d = g.D.Disk in
    let laws = g.met.D.Disk.laws in
    let inside = c.self.inside in
    let place = inside.place in
    let buffer = inside.buffer.items in
    let size = c.in-Some.size in
    let was = subst (λ p. IsConsistent d.words inside.disk place p buffer) c.in-Some.is c.self.invariant in
    let view = ap (λ p. journal_of d.words inside.disk place p buffer) (sym c.in-Some.is) ∙ c.self.view_is in
    let new = c.settle_at.new.disk in
    rests d.words new place inside.pending buffer (subst (λ p. IsConsistent d.words new place p buffer) (sym c.in-Some.is) (settle.unsettled_consistent d.words laws inside.disk place size buffer was new c.settle_at.ensures.same.honest c.settle_at.ensures.any_moment))

pub invariant_of-self-then-branch : goal.invariant_of-self-then-branch
invariant_of-self-then-branch g c =
    let d = g.D.Disk in
    let laws = g.met.D.Disk.laws in
    let inside = c.self.inside in
    let place = inside.place in
    let buffer = inside.buffer.items in
    let size = c.in-Some.size in
    let was = subst (λ p. IsConsistent d.words inside.disk place p buffer) c.in-Some.is c.self.invariant in
    let view = ap (λ p. journal_of d.words inside.disk place p buffer) (sym c.in-Some.is) ∙ c.self.view_is in
    let new = c.settle_at.new.disk in
    let is_kept : c.in_ok-settle_at.field-0 ≡ true = c.if-branch.true in
    let is_open : (front body : List ℕ) → IsGateAt d.words inside.disk place front (InDoubt front body) → NoMore (Closed (front ++ text body)) (d.words.may_leave new) = λ front body at f now.
    subst (λ b. Closed (if b then front ++ text body else front) f) is_kept (c.in_ok-settle_at.ensures.ok front body at f now) in
    settle.kept_consistent d.words laws inside.disk place size buffer was new c.settle_at.ensures.same.honest c.settle_at.ensures.any_moment is_open

pub invariant_of-self-else-branch : goal.invariant_of-self-else-branch
invariant_of-self-else-branch g c =
    let d = g.D.Disk in
    let laws = g.met.D.Disk.laws in
    let inside = c.self.inside in
    let place = inside.place in
    let buffer = inside.buffer.items in
    let size = c.in-Some.size in
    let was = subst (λ p. IsConsistent d.words inside.disk place p buffer) c.in-Some.is c.self.invariant in
    let view = ap (λ p. journal_of d.words inside.disk place p buffer) (sym c.in-Some.is) ∙ c.self.view_is in
    let new = c.settle_at.new.disk in
    let is_dropped : c.in_ok-settle_at.field-0 ≡ false = c.if-branch.false in
    let shut : (front body : List ℕ) → IsGateAt d.words inside.disk place front (InDoubt front body) → NoMore (Closed front) (d.words.may_leave new) = λ front body at f now.
    subst (λ b. Closed (if b then front ++ text body else front) f) is_dropped (c.in_ok-settle_at.ensures.ok front body at f now) in
    settle.dropped_consistent d.words laws inside.disk place size buffer was new c.settle_at.ensures.same.honest c.settle_at.ensures.any_moment shut

pub returns-then-branch-clause-ok : goal.returns-then-branch-clause-ok
returns-then-branch-clause-ok g c =
    let d = g.D.Disk in
    let laws = g.met.D.Disk.laws in
    let inside = c.self.inside in
    let place = inside.place in
    let buffer = inside.buffer.items in
    let size = c.in-Some.size in
    let was = subst (λ p. IsConsistent d.words inside.disk place p buffer) c.in-Some.is c.self.invariant in
    let view = ap (λ p. journal_of d.words inside.disk place p buffer) (sym c.in-Some.is) ∙ c.self.view_is in
    let new = c.settle_at.new.disk in
    let is_kept : c.in_ok-settle_at.field-0 ≡ true = c.if-branch.true in
    let is_open : (front body : List ℕ) → IsGateAt d.words inside.disk place front (InDoubt front body) → NoMore (Closed (front ++ text body)) (d.words.may_leave new) = λ front body at f now.
    subst (λ b. Closed (if b then front ++ text body else front) f) is_kept (c.in_ok-settle_at.ensures.ok front body at f now) in
    let byte : IsTrue (d.words.honest inside.disk) → slice_index (d.words.seen inside.disk) place ≡ 1 = λ honest. eqb-true _ _ (sym (c.in_ok-settle_at.ensures.value honest) ∙ is_kept) in
    subst (λ v. Settles d.words v Kept (journal_of d.words new (place + (size + 9)) None buffer)) view (take size (drop 8 buffer), refl, settle.kept d.words laws inside.disk place size buffer was new c.settle_at.ensures.same.honest c.settle_at.ensures.any_moment is_open, byte)

pub returns-then-branch-clause-any_moment : goal.returns-then-branch-clause-any_moment
returns-then-branch-clause-any_moment g c honest =
    let d = g.D.Disk in
    let laws = g.met.D.Disk.laws in
    let inside = c.self.inside in
    let place = inside.place in
    let buffer = inside.buffer.items in
    let size = c.in-Some.size in
    let was = subst (λ p. IsConsistent d.words inside.disk place p buffer) c.in-Some.is c.self.invariant in
    let view = ap (λ p. journal_of d.words inside.disk place p buffer) (sym c.in-Some.is) ∙ c.self.view_is in
    let new = c.settle_at.new.disk in
    subst (λ v. LeavesOnly d.words v.disk new (IsTextWithDoubt v.bodies v.doubt)) view (settle.settle_moments d.words laws inside.disk place size buffer was new c.settle_at.ensures.same.honest c.settle_at.ensures.any_moment (ap (λ v. d.words.honest v.disk) c.self.view_is ∙ honest))

pub returns-then-branch-clause-images : goal.returns-then-branch-clause-images
returns-then-branch-clause-images g c =
    let d = g.D.Disk in
    let laws = g.met.D.Disk.laws in
    let inside = c.self.inside in
    let place = inside.place in
    let buffer = inside.buffer.items in
    let size = c.in-Some.size in
    let was = subst (λ p. IsConsistent d.words inside.disk place p buffer) c.in-Some.is c.self.invariant in
    let view = ap (λ p. journal_of d.words inside.disk place p buffer) (sym c.in-Some.is) ∙ c.self.view_is in
    let new = c.settle_at.new.disk in
    let is_kept : c.in_ok-settle_at.field-0 ≡ true = c.if-branch.true in
    let is_open : (front body : List ℕ) → IsGateAt d.words inside.disk place front (InDoubt front body) → NoMore (Closed (front ++ text body)) (d.words.may_leave new) = λ front body at f now.
    subst (λ b. Closed (if b then front ++ text body else front) f) is_kept (c.in_ok-settle_at.ensures.ok front body at f now) in
    rests d.words new (place + (size + 9)) None buffer (settle.kept_consistent d.words laws inside.disk place size buffer was new c.settle_at.ensures.same.honest c.settle_at.ensures.any_moment is_open)

pub returns-else-branch-clause-ok : goal.returns-else-branch-clause-ok
returns-else-branch-clause-ok g c =
    let d = g.D.Disk in
    let laws = g.met.D.Disk.laws in
    let inside = c.self.inside in
    let place = inside.place in
    let buffer = inside.buffer.items in
    let size = c.in-Some.size in
    let was = subst (λ p. IsConsistent d.words inside.disk place p buffer) c.in-Some.is c.self.invariant in
    let view = ap (λ p. journal_of d.words inside.disk place p buffer) (sym c.in-Some.is) ∙ c.self.view_is in
    let new = c.settle_at.new.disk in
    let is_dropped : c.in_ok-settle_at.field-0 ≡ false = c.if-branch.false in
    let shut : (front body : List ℕ) → IsGateAt d.words inside.disk place front (InDoubt front body) → NoMore (Closed front) (d.words.may_leave new) = λ front body at f now.
    subst (λ b. Closed (if b then front ++ text body else front) f) is_dropped (c.in_ok-settle_at.ensures.ok front body at f now) in
    let byte : IsTrue (d.words.honest inside.disk) → slice_index (d.words.seen inside.disk) place ≢ 1 = λ honest. eqb-false _ _ (sym (c.in_ok-settle_at.ensures.value honest) ∙ is_dropped) in
    subst (λ v. Settles d.words v Dropped (journal_of d.words new place None buffer)) view (refl, settle.dropped d.words laws inside.disk place size buffer was new c.settle_at.ensures.same.honest c.settle_at.ensures.any_moment shut, byte)

pub returns-else-branch-clause-any_moment : goal.returns-else-branch-clause-any_moment
returns-else-branch-clause-any_moment g c honest =
    let d = g.D.Disk in
    let laws = g.met.D.Disk.laws in
    let inside = c.self.inside in
    let place = inside.place in
    let buffer = inside.buffer.items in
    let size = c.in-Some.size in
    let was = subst (λ p. IsConsistent d.words inside.disk place p buffer) c.in-Some.is c.self.invariant in
    let view = ap (λ p. journal_of d.words inside.disk place p buffer) (sym c.in-Some.is) ∙ c.self.view_is in
    let new = c.settle_at.new.disk in
    subst (λ v. LeavesOnly d.words v.disk new (IsTextWithDoubt v.bodies v.doubt)) view (settle.settle_moments d.words laws inside.disk place size buffer was new c.settle_at.ensures.same.honest c.settle_at.ensures.any_moment (ap (λ v. d.words.honest v.disk) c.self.view_is ∙ honest))

pub returns-else-branch-clause-images : goal.returns-else-branch-clause-images
returns-else-branch-clause-images g c =
    let d = g.D.Disk in
    let laws = g.met.D.Disk.laws in
    let inside = c.self.inside in
    let place = inside.place in
    let buffer = inside.buffer.items in
    let size = c.in-Some.size in
    let was = subst (λ p. IsConsistent d.words inside.disk place p buffer) c.in-Some.is c.self.invariant in
    let view = ap (λ p. journal_of d.words inside.disk place p buffer) (sym c.in-Some.is) ∙ c.self.view_is in
    let new = c.settle_at.new.disk in
    let is_dropped : c.in_ok-settle_at.field-0 ≡ false = c.if-branch.false in
    let shut : (front body : List ℕ) → IsGateAt d.words inside.disk place front (InDoubt front body) → NoMore (Closed front) (d.words.may_leave new) = λ front body at f now.
    subst (λ b. Closed (if b then front ++ text body else front) f) is_dropped (c.in_ok-settle_at.ensures.ok front body at f now) in
    rests d.words new place None buffer (settle.dropped_consistent d.words laws inside.disk place size buffer was new c.settle_at.ensures.same.honest c.settle_at.ensures.any_moment shut)
