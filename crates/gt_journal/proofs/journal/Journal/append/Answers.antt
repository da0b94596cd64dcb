-- Hard here: each fault leaves another standing. The first two calls leave the files closed, the last two leave the body in doubt.
use Rattle.std.proofs.Common.{rules, ◌≡◌, inl, inr, ◌+◌, ◌≤◌, None, Some, length, take, ◌∙◌, ap, subst}
use Rattle.std.proofs.lemmas.List.{places}
use Rattle.std.specs.Vec.{with_items}
use Rattle.gt_disk.specs.Disk.{LeavesOnly}
use Rattle.gt_journal.specs.JournalText.{IsTextWithDoubt}
use Rattle.gt_journal.specs.Journal.{journal_of}
use Rattle.gt_journal.specs.Calls.{IsAdded, IsUnwritten, StaysWith}
use Rattle.gt_journal.proofs.Appends as append
use Rattle.gt_journal.proofs.Standings.{rests}
use Rattle.gt_journal.proofs.journal.Journal.append.Goals as goal

-- after a fault of the first two calls
pub invariant_of-self : goal.invariant_of-self
invariant_of-self g c =
    let d = g.D.Disk in
    let laws = g.met.D.Disk.laws in
    let inside = c.self.inside in
    let place = inside.place in
    let body = c.args.body.now in
    let none = ap (λ v. v.doubt) c.self.view_is ∙ c.requires.clear in
    let buffer = (with_items inside.buffer c.fill.new.buffer).items in
    let long : 9 ≤ length buffer = search (rules, places) in
    append.unwritten_consistent d.words laws inside.disk place inside.pending inside.buffer.items c.self.invariant none c.stage.new.disk c.stage.ensures.same.honest c.stage.ensures.any_moment buffer long

pub returns-in_err-stage-clause-err : goal.returns-in_err-stage-clause-err
returns-in_err-stage-clause-err g c failed =
    let d = g.D.Disk in
    let laws = g.met.D.Disk.laws in
    let inside = c.self.inside in
    let place = inside.place in
    let body = c.args.body.now in
    let none = ap (λ v. v.doubt) c.self.view_is ∙ c.requires.clear in
    let buffer = (with_items inside.buffer c.fill.new.buffer).items in
    let long : 9 ≤ length buffer = search (rules, places) in
    inr (subst (λ v. IsUnwritten d.words v (journal_of d.words c.stage.new.disk place inside.pending buffer)) c.self.view_is (append.unwritten d.words laws inside.disk place inside.pending inside.buffer.items c.self.invariant none c.stage.new.disk c.stage.ensures.same.honest c.stage.ensures.any_moment buffer long))

pub returns-in_err-stage-clause-any_moment : goal.returns-in_err-stage-clause-any_moment
returns-in_err-stage-clause-any_moment g c honest =
    let d = g.D.Disk in
    let laws = g.met.D.Disk.laws in
    let inside = c.self.inside in
    let place = inside.place in
    let body = c.args.body.now in
    let none = ap (λ v. v.doubt) c.self.view_is ∙ c.requires.clear in
    let buffer = (with_items inside.buffer c.fill.new.buffer).items in
    let long : 9 ≤ length buffer = search (rules, places) in
    subst (λ v. LeavesOnly d.words v.disk c.stage.new.disk (IsTextWithDoubt v.bodies (Some body))) c.self.view_is (append.unwritten_moments d.words laws inside.disk place inside.pending inside.buffer.items c.self.invariant none c.stage.new.disk c.stage.ensures.same.honest c.stage.ensures.any_moment buffer long body (ap (λ v. d.words.honest v.disk) c.self.view_is ∙ honest))

pub returns-in_err-stage-clause-images : goal.returns-in_err-stage-clause-images
returns-in_err-stage-clause-images g c =
    let d = g.D.Disk in
    let laws = g.met.D.Disk.laws in
    let inside = c.self.inside in
    let place = inside.place in
    let body = c.args.body.now in
    let none = ap (λ v. v.doubt) c.self.view_is ∙ c.requires.clear in
    let buffer = (with_items inside.buffer c.fill.new.buffer).items in
    let long : 9 ≤ length buffer = search (rules, places) in
    rests d.words c.stage.new.disk place inside.pending buffer (append.unwritten_consistent d.words laws inside.disk place inside.pending inside.buffer.items c.self.invariant none c.stage.new.disk c.stage.ensures.same.honest c.stage.ensures.any_moment buffer long)

pub set_gate-requires-clause-place : goal.set_gate-requires-clause-place
set_gate-requires-clause-place g c honest =
    let d = g.D.Disk in
    let laws = g.met.D.Disk.laws in
    let inside = c.self.inside in
    let place = inside.place in
    let body = c.args.body.now in
    let none = ap (λ v. v.doubt) c.self.view_is ∙ c.requires.clear in
    let buffer = (with_items inside.buffer c.fill.new.buffer).items in
    let long : 9 ≤ length buffer = search (rules, places) in
    let bytes = take (length body + 9) c.deref.result.now in
    let whole : bytes ≡ take (length body + 9) c.fill.new.buffer = search (rules, places) in
    let spelled = whole ∙ c.fill.ensures.front in
    let is_bytes : take (length body + 9) buffer ≡ bytes = search (rules, places) in
    (take place (d.words.seen inside.disk), body, append.gate_doubtful d.words laws inside.disk place inside.pending inside.buffer.items c.self.invariant none c.stage.new.disk c.stage.ensures.same.honest c.stage.ensures.any_moment buffer long body bytes spelled is_bytes c.in_ok-stage.ensures.room c.in_ok-stage.ensures.ok honest)

pub invariant_of-self-in_err-set_gate : goal.invariant_of-self-in_err-set_gate
invariant_of-self-in_err-set_gate g c =
    let d = g.D.Disk in
    let laws = g.met.D.Disk.laws in
    let inside = c.self.inside in
    let place = inside.place in
    let body = c.args.body.now in
    let none = ap (λ v. v.doubt) c.self.view_is ∙ c.requires.clear in
    let buffer = (with_items inside.buffer c.fill.new.buffer).items in
    let long : 9 ≤ length buffer = search (rules, places) in
    let bytes = take (length body + 9) c.deref.result.now in
    let whole : bytes ≡ take (length body + 9) c.fill.new.buffer = search (rules, places) in
    let spelled = whole ∙ c.fill.ensures.front in
    let is_bytes : take (length body + 9) buffer ≡ bytes = search (rules, places) in
    let buffered : length body + 9 ≤ length buffer = search (rules, places) in
    append.doubted_consistent d.words laws inside.disk place inside.pending inside.buffer.items c.self.invariant none c.stage.new.disk c.stage.ensures.same.honest c.stage.ensures.any_moment buffer long body bytes spelled is_bytes c.in_ok-stage.ensures.room c.in_ok-stage.ensures.ok c.set_gate.new.disk c.set_gate.ensures.same.honest c.set_gate.ensures.any_moment buffered

pub returns-in_err-set_gate-clause-err : goal.returns-in_err-set_gate-clause-err
returns-in_err-set_gate-clause-err g c failed =
    let d = g.D.Disk in
    let laws = g.met.D.Disk.laws in
    let inside = c.self.inside in
    let place = inside.place in
    let body = c.args.body.now in
    let none = ap (λ v. v.doubt) c.self.view_is ∙ c.requires.clear in
    let buffer = (with_items inside.buffer c.fill.new.buffer).items in
    let long : 9 ≤ length buffer = search (rules, places) in
    let bytes = take (length body + 9) c.deref.result.now in
    let whole : bytes ≡ take (length body + 9) c.fill.new.buffer = search (rules, places) in
    let spelled = whole ∙ c.fill.ensures.front in
    let is_bytes : take (length body + 9) buffer ≡ bytes = search (rules, places) in
    inl (subst (λ v. StaysWith d.words v (Some body) (journal_of d.words c.set_gate.new.disk place (Some (length body)) buffer)) c.self.view_is (append.doubted d.words laws inside.disk place inside.pending inside.buffer.items c.self.invariant none c.stage.new.disk c.stage.ensures.same.honest c.stage.ensures.any_moment buffer long body bytes spelled is_bytes c.in_ok-stage.ensures.room c.in_ok-stage.ensures.ok c.set_gate.new.disk c.set_gate.ensures.same.honest c.set_gate.ensures.any_moment))

pub returns-in_err-set_gate-clause-any_moment : goal.returns-in_err-set_gate-clause-any_moment
returns-in_err-set_gate-clause-any_moment g c honest =
    let d = g.D.Disk in
    let laws = g.met.D.Disk.laws in
    let inside = c.self.inside in
    let place = inside.place in
    let body = c.args.body.now in
    let none = ap (λ v. v.doubt) c.self.view_is ∙ c.requires.clear in
    let buffer = (with_items inside.buffer c.fill.new.buffer).items in
    let long : 9 ≤ length buffer = search (rules, places) in
    let bytes = take (length body + 9) c.deref.result.now in
    let whole : bytes ≡ take (length body + 9) c.fill.new.buffer = search (rules, places) in
    let spelled = whole ∙ c.fill.ensures.front in
    let is_bytes : take (length body + 9) buffer ≡ bytes = search (rules, places) in
    subst (λ v. LeavesOnly d.words v.disk c.set_gate.new.disk (IsTextWithDoubt v.bodies (Some body))) c.self.view_is (append.append_run d.words laws inside.disk place inside.pending inside.buffer.items c.self.invariant none c.stage.new.disk c.stage.ensures.same.honest c.stage.ensures.any_moment buffer long body bytes spelled is_bytes c.in_ok-stage.ensures.room c.in_ok-stage.ensures.ok c.set_gate.new.disk c.set_gate.ensures.same.honest c.set_gate.ensures.any_moment (ap (λ v. d.words.honest v.disk) c.self.view_is ∙ honest))

pub returns-in_err-set_gate-clause-images : goal.returns-in_err-set_gate-clause-images
returns-in_err-set_gate-clause-images g c =
    let d = g.D.Disk in
    let laws = g.met.D.Disk.laws in
    let inside = c.self.inside in
    let place = inside.place in
    let body = c.args.body.now in
    let none = ap (λ v. v.doubt) c.self.view_is ∙ c.requires.clear in
    let buffer = (with_items inside.buffer c.fill.new.buffer).items in
    let long : 9 ≤ length buffer = search (rules, places) in
    let bytes = take (length body + 9) c.deref.result.now in
    let whole : bytes ≡ take (length body + 9) c.fill.new.buffer = search (rules, places) in
    let spelled = whole ∙ c.fill.ensures.front in
    let is_bytes : take (length body + 9) buffer ≡ bytes = search (rules, places) in
    let buffered : length body + 9 ≤ length buffer = search (rules, places) in
    rests d.words c.set_gate.new.disk place (Some (length body)) buffer (append.doubted_consistent d.words laws inside.disk place inside.pending inside.buffer.items c.self.invariant none c.stage.new.disk c.stage.ensures.same.honest c.stage.ensures.any_moment buffer long body bytes spelled is_bytes c.in_ok-stage.ensures.room c.in_ok-stage.ensures.ok c.set_gate.new.disk c.set_gate.ensures.same.honest c.set_gate.ensures.any_moment buffered)

pub invariant_of-self-2 : goal.invariant_of-self-2
invariant_of-self-2 g c =
    let d = g.D.Disk in
    let laws = g.met.D.Disk.laws in
    let inside = c.self.inside in
    let place = inside.place in
    let body = c.args.body.now in
    let none = ap (λ v. v.doubt) c.self.view_is ∙ c.requires.clear in
    let buffer = (with_items inside.buffer c.fill.new.buffer).items in
    let long : 9 ≤ length buffer = search (rules, places) in
    let bytes = take (length body + 9) c.deref.result.now in
    let whole : bytes ≡ take (length body + 9) c.fill.new.buffer = search (rules, places) in
    let spelled = whole ∙ c.fill.ensures.front in
    let is_bytes : take (length body + 9) buffer ≡ bytes = search (rules, places) in
    append.added_consistent d.words laws inside.disk place inside.pending inside.buffer.items c.self.invariant none c.stage.new.disk c.stage.ensures.same.honest c.stage.ensures.any_moment buffer long body bytes spelled is_bytes c.in_ok-stage.ensures.room c.in_ok-stage.ensures.ok c.set_gate.new.disk c.set_gate.ensures.same.honest c.set_gate.ensures.any_moment c.in_ok-set_gate.ensures.ok

pub returns-clause-ok : goal.returns-clause-ok
returns-clause-ok g c =
    let d = g.D.Disk in
    let laws = g.met.D.Disk.laws in
    let inside = c.self.inside in
    let place = inside.place in
    let body = c.args.body.now in
    let none = ap (λ v. v.doubt) c.self.view_is ∙ c.requires.clear in
    let buffer = (with_items inside.buffer c.fill.new.buffer).items in
    let long : 9 ≤ length buffer = search (rules, places) in
    let bytes = take (length body + 9) c.deref.result.now in
    let whole : bytes ≡ take (length body + 9) c.fill.new.buffer = search (rules, places) in
    let spelled = whole ∙ c.fill.ensures.front in
    let is_bytes : take (length body + 9) buffer ≡ bytes = search (rules, places) in
    subst (λ v. IsAdded d.words v body (journal_of d.words c.set_gate.new.disk (place + (length body + 9)) None buffer)) c.self.view_is (append.added d.words laws inside.disk place inside.pending inside.buffer.items c.self.invariant none c.stage.new.disk c.stage.ensures.same.honest c.stage.ensures.any_moment buffer long body bytes spelled is_bytes c.in_ok-stage.ensures.room c.in_ok-stage.ensures.ok c.set_gate.new.disk c.set_gate.ensures.same.honest c.set_gate.ensures.any_moment c.in_ok-set_gate.ensures.ok)

pub returns-clause-any_moment : goal.returns-clause-any_moment
returns-clause-any_moment g c honest =
    let d = g.D.Disk in
    let laws = g.met.D.Disk.laws in
    let inside = c.self.inside in
    let place = inside.place in
    let body = c.args.body.now in
    let none = ap (λ v. v.doubt) c.self.view_is ∙ c.requires.clear in
    let buffer = (with_items inside.buffer c.fill.new.buffer).items in
    let long : 9 ≤ length buffer = search (rules, places) in
    let bytes = take (length body + 9) c.deref.result.now in
    let whole : bytes ≡ take (length body + 9) c.fill.new.buffer = search (rules, places) in
    let spelled = whole ∙ c.fill.ensures.front in
    let is_bytes : take (length body + 9) buffer ≡ bytes = search (rules, places) in
    subst (λ v. LeavesOnly d.words v.disk c.set_gate.new.disk (IsTextWithDoubt v.bodies (Some body))) c.self.view_is (append.append_run d.words laws inside.disk place inside.pending inside.buffer.items c.self.invariant none c.stage.new.disk c.stage.ensures.same.honest c.stage.ensures.any_moment buffer long body bytes spelled is_bytes c.in_ok-stage.ensures.room c.in_ok-stage.ensures.ok c.set_gate.new.disk c.set_gate.ensures.same.honest c.set_gate.ensures.any_moment (ap (λ v. d.words.honest v.disk) c.self.view_is ∙ honest))

pub returns-clause-images : goal.returns-clause-images
returns-clause-images g c =
    let d = g.D.Disk in
    let laws = g.met.D.Disk.laws in
    let inside = c.self.inside in
    let place = inside.place in
    let body = c.args.body.now in
    let none = ap (λ v. v.doubt) c.self.view_is ∙ c.requires.clear in
    let buffer = (with_items inside.buffer c.fill.new.buffer).items in
    let long : 9 ≤ length buffer = search (rules, places) in
    let bytes = take (length body + 9) c.deref.result.now in
    let whole : bytes ≡ take (length body + 9) c.fill.new.buffer = search (rules, places) in
    let spelled = whole ∙ c.fill.ensures.front in
    let is_bytes : take (length body + 9) buffer ≡ bytes = search (rules, places) in
    rests d.words c.set_gate.new.disk (place + (length body + 9)) None buffer (append.added_consistent d.words laws inside.disk place inside.pending inside.buffer.items c.self.invariant none c.stage.new.disk c.stage.ensures.same.honest c.stage.ensures.any_moment buffer long body bytes spelled is_bytes c.in_ok-stage.ensures.room c.in_ok-stage.ensures.ok c.set_gate.new.disk c.set_gate.ensures.same.honest c.set_gate.ensures.any_moment c.in_ok-set_gate.ensures.ok)
