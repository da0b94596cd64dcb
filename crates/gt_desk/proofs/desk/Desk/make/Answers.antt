use Rattle.std.proofs.Common.{rules, ◌∙◌, ◌≡◌, ◌∷◌, ◌++◌, [], Err, List, None, Ok, Some, ap, false, inl, inr, ℕ, refl, subst, sym, true}
use Rattle.std.specs.Prelude.{IsErr, IsSome, is_some}
use Rattle.gt_desk.proofs.DeskCalls.{idle_recorded}
use Rattle.gt_desk.proofs.JournalLemmas.{added_consistent, added_history, added_recorded, counted, doubted_consistent, during_event, during_nothing, is_doubted, is_unwritten, not_recorded, prepared_consistent, prepared_view, still_consistent}
use Rattle.gt_desk.proofs.Standing.{found, no_change, stands_now}
use Rattle.gt_desk.specs.Desk.{HasRecorded, IsPending, desk_of, event_in, events_of}
use Rattle.gt_desk.specs.History.{Stands, StandsDuring, StandsFor, StandsWith}
use Rattle.gt_desk.specs.declared.fault.DeskFault.TheVariants.{JournalFault, OutOfMemory}
use Rattle.gt_disk.specs.Disk.{LeavesOnly}
use Rattle.gt_disk.specs.Moments.{started}
use Rattle.gt_journal.specs.Calls.{IsAdded, StaysWith}
use Rattle.gt_journal.specs.JournalText.{IsTextWithDoubt}
use Rattle.gt_machine.specs.Step.{step_of}
use Rattle.gt_machine.specs.declared.decision.Decision.TheVariants.{Do}
use Rattle.gt_records.specs.RecordText.{record_text}
use Rattle.gt_desk.proofs.desk.Desk.make.Goals as goal

pub invariant_of-self-in-Ok-append : goal.invariant_of-self-in-Ok-append
invariant_of-self-in-Ok-append g c =
    let w = g.D.Disk.words in
    let i = c.self.inside in
    let j = i.journal in
    let p = c.plan_record-prepared.new in
    let a = c.append.new.self in
    let event = c.args.event in
    let change = c.in-Ok.change in
    let none : i.doubt ≡ None = no_change i.doubt (ap (λ v. v.ledger.doubt) c.self.view_is ∙ c.requires.clear) in
    let was = prepared_consistent w i.setup i.state p.state i.doubt j p.journal c.plan_record-prepared.ensures.machine c.plan_record-prepared.ensures.journal none c.self.invariant in
    let view = prepared_view w i.setup i.state p.state i.doubt j p.journal c.plan_record-prepared.ensures.machine c.plan_record-prepared.ensures.journal ∙ c.self.view_is in
    let steps = subst (λ v. IsSome (step_of v.setup v.ledger.machine event)) (sym c.self.view_is) c.requires.step in
    let pend : IsPending i.setup p.state change = c.in-Ok.ensures.pending i.setup steps in
    let same : change.event ≡ event = c.in-Ok.ensures.event in
    let text : c.deref.result.now ≡ record_text event = search rules in
    let next = c.commit.new.self in
    let step : step_of i.setup p.state.machine event ≡ Some next.machine = subst (λ e. step_of i.setup p.state.machine e ≡ Some next.machine) same (c.commit.ensures i.setup pend.planned) in
    let added = subst (λ b. IsAdded w p.journal b a) text c.in-Ok-append.ensures.ok in
    let more = counted i.setup p.state.machine next.machine event (c.runs_are_sound.ensures i.setup) was.reached step in
    added_consistent w i.setup p.state i.doubt p.journal a was c.append.ensures.same c.append.ensures.images event (c.record_text_reads_back.ensures event c.requires.recordable) added next step more i.doubt none

pub returns-in-Ok-append-clause-made : goal.returns-in-Ok-append-clause-made
returns-in-Ok-append-clause-made g c =
    let w = g.D.Disk.words in
    let i = c.self.inside in
    let j = i.journal in
    let p = c.plan_record-prepared.new in
    let a = c.append.new.self in
    let event = c.args.event in
    let change = c.in-Ok.change in
    let none : i.doubt ≡ None = no_change i.doubt (ap (λ v. v.ledger.doubt) c.self.view_is ∙ c.requires.clear) in
    let was = prepared_consistent w i.setup i.state p.state i.doubt j p.journal c.plan_record-prepared.ensures.machine c.plan_record-prepared.ensures.journal none c.self.invariant in
    let view = prepared_view w i.setup i.state p.state i.doubt j p.journal c.plan_record-prepared.ensures.machine c.plan_record-prepared.ensures.journal ∙ c.self.view_is in
    let steps = subst (λ v. IsSome (step_of v.setup v.ledger.machine event)) (sym c.self.view_is) c.requires.step in
    let pend : IsPending i.setup p.state change = c.in-Ok.ensures.pending i.setup steps in
    let same : change.event ≡ event = c.in-Ok.ensures.event in
    let text : c.deref.result.now ≡ record_text event = search rules in
    let next = c.commit.new.self in
    let step : step_of i.setup p.state.machine event ≡ Some next.machine = subst (λ e. step_of i.setup p.state.machine e ≡ Some next.machine) same (c.commit.ensures i.setup pend.planned) in
    let added = subst (λ b. IsAdded w p.journal b a) text c.in-Ok-append.ensures.ok in
    subst (λ v. HasRecorded w (Do event (tt {0})) v (Ok (tt {0})) (desk_of i.setup next i.doubt a)) view
    (added_recorded w i.setup p.state i.doubt p.journal a was c.append.ensures.same c.append.ensures.images event (c.record_text_reads_back.ensures event c.requires.recordable) added next step i.doubt none)

pub returns-in-Ok-append-clause-any_moment : goal.returns-in-Ok-append-clause-any_moment
returns-in-Ok-append-clause-any_moment g c honest =
    let w = g.D.Disk.words in
    let i = c.self.inside in
    let j = i.journal in
    let p = c.plan_record-prepared.new in
    let a = c.append.new.self in
    let event = c.args.event in
    let change = c.in-Ok.change in
    let none : i.doubt ≡ None = no_change i.doubt (ap (λ v. v.ledger.doubt) c.self.view_is ∙ c.requires.clear) in
    let was = prepared_consistent w i.setup i.state p.state i.doubt j p.journal c.plan_record-prepared.ensures.machine c.plan_record-prepared.ensures.journal none c.self.invariant in
    let view = prepared_view w i.setup i.state p.state i.doubt j p.journal c.plan_record-prepared.ensures.machine c.plan_record-prepared.ensures.journal ∙ c.self.view_is in
    let steps = subst (λ v. IsSome (step_of v.setup v.ledger.machine event)) (sym c.self.view_is) c.requires.step in
    let pend : IsPending i.setup p.state change = c.in-Ok.ensures.pending i.setup steps in
    let same : change.event ≡ event = c.in-Ok.ensures.event in
    let text : c.deref.result.now ≡ record_text event = search rules in
    let next = c.commit.new.self in
    let step : step_of i.setup p.state.machine event ≡ Some next.machine = subst (λ e. step_of i.setup p.state.machine e ≡ Some next.machine) same (c.commit.ensures i.setup pend.planned) in
    let added = subst (λ b. IsAdded w p.journal b a) text c.in-Ok-append.ensures.ok in
    let here = ap (λ v. w.honest v.disk) view ∙ honest in
    let run = subst (λ b. LeavesOnly w p.journal.disk a.disk (IsTextWithDoubt p.journal.bodies (Some b))) text (c.append.ensures.any_moment here) in
    let later = (desk_of i.setup next i.doubt a).ledger in
    let there : (f : List ℕ) → StandsFor i.setup (events_of p.journal.bodies ++ event ∷ []) f → Stands i.setup later f =
    λ f stands. subst (λ o. StandsWith i.setup (events_of a.bodies) (event_in o) f) (sym none) (subst (λ h. StandsFor i.setup h f) (sym (added_history w i.setup p.state i.doubt p.journal a was c.append.ensures.same c.append.ensures.images event (c.record_text_reads_back.ensures event c.requires.recordable) added next step here)) stands) in
    subst (λ v. LeavesOnly w v.disk a.disk (StandsDuring v.setup v.ledger later)) view (during_event w i.setup p.state i.doubt p.journal a was c.append.ensures.same c.append.ensures.images none here later event next.machine step there run)

pub returns-in-Ok-append-clause-images : goal.returns-in-Ok-append-clause-images
returns-in-Ok-append-clause-images g c =
    let w = g.D.Disk.words in
    let i = c.self.inside in
    let j = i.journal in
    let p = c.plan_record-prepared.new in
    let a = c.append.new.self in
    let event = c.args.event in
    let change = c.in-Ok.change in
    let none : i.doubt ≡ None = no_change i.doubt (ap (λ v. v.ledger.doubt) c.self.view_is ∙ c.requires.clear) in
    let was = prepared_consistent w i.setup i.state p.state i.doubt j p.journal c.plan_record-prepared.ensures.machine c.plan_record-prepared.ensures.journal none c.self.invariant in
    let view = prepared_view w i.setup i.state p.state i.doubt j p.journal c.plan_record-prepared.ensures.machine c.plan_record-prepared.ensures.journal ∙ c.self.view_is in
    let steps = subst (λ v. IsSome (step_of v.setup v.ledger.machine event)) (sym c.self.view_is) c.requires.step in
    let pend : IsPending i.setup p.state change = c.in-Ok.ensures.pending i.setup steps in
    let same : change.event ≡ event = c.in-Ok.ensures.event in
    let text : c.deref.result.now ≡ record_text event = search rules in
    let next = c.commit.new.self in
    let step : step_of i.setup p.state.machine event ≡ Some next.machine = subst (λ e. step_of i.setup p.state.machine e ≡ Some next.machine) same (c.commit.ensures i.setup pend.planned) in
    let added = subst (λ b. IsAdded w p.journal b a) text c.in-Ok-append.ensures.ok in
    let more = counted i.setup p.state.machine next.machine event (c.runs_are_sound.ensures i.setup) was.reached step in
    stands_now w i.setup next i.doubt a (added_consistent w i.setup p.state i.doubt p.journal a was c.append.ensures.same c.append.ensures.images event (c.record_text_reads_back.ensures event c.requires.recordable) added next step more i.doubt none)

pub invariant_of-self-then-in_doubt : goal.invariant_of-self-then-in_doubt
invariant_of-self-then-in_doubt g c =
    let w = g.D.Disk.words in
    let i = c.self.inside in
    let j = i.journal in
    let p = c.plan_record-prepared.new in
    let a = c.append.new.self in
    let event = c.args.event in
    let change = c.in-Ok.change in
    let none : i.doubt ≡ None = no_change i.doubt (ap (λ v. v.ledger.doubt) c.self.view_is ∙ c.requires.clear) in
    let was = prepared_consistent w i.setup i.state p.state i.doubt j p.journal c.plan_record-prepared.ensures.machine c.plan_record-prepared.ensures.journal none c.self.invariant in
    let view = prepared_view w i.setup i.state p.state i.doubt j p.journal c.plan_record-prepared.ensures.machine c.plan_record-prepared.ensures.journal ∙ c.self.view_is in
    let steps = subst (λ v. IsSome (step_of v.setup v.ledger.machine event)) (sym c.self.view_is) c.requires.step in
    let pend : IsPending i.setup p.state change = c.in-Ok.ensures.pending i.setup steps in
    let same : change.event ≡ event = c.in-Ok.ensures.event in
    let text : c.deref.result.now ≡ record_text event = search rules in
    let failed : IsErr c.append.result = search rules in
    let some : is_some a.doubt ≡ true = search rules in
    let stays = subst (λ b. StaysWith w p.journal (Some b) a) (text ∙ ap record_text (sym same)) (is_doubted w p.journal c.deref.result.now a some (c.append.ensures.err failed)) in
    doubted_consistent w i.setup p.state i.doubt p.journal a was c.append.ensures.same c.append.ensures.images p.state change refl pend stays

pub returns-then-in_doubt-clause-made : goal.returns-then-in_doubt-clause-made
returns-then-in_doubt-clause-made g c =
    let w = g.D.Disk.words in
    let i = c.self.inside in
    let j = i.journal in
    let p = c.plan_record-prepared.new in
    let a = c.append.new.self in
    let event = c.args.event in
    let change = c.in-Ok.change in
    let none : i.doubt ≡ None = no_change i.doubt (ap (λ v. v.ledger.doubt) c.self.view_is ∙ c.requires.clear) in
    let was = prepared_consistent w i.setup i.state p.state i.doubt j p.journal c.plan_record-prepared.ensures.machine c.plan_record-prepared.ensures.journal none c.self.invariant in
    let view = prepared_view w i.setup i.state p.state i.doubt j p.journal c.plan_record-prepared.ensures.machine c.plan_record-prepared.ensures.journal ∙ c.self.view_is in
    let steps = subst (λ v. IsSome (step_of v.setup v.ledger.machine event)) (sym c.self.view_is) c.requires.step in
    let pend : IsPending i.setup p.state change = c.in-Ok.ensures.pending i.setup steps in
    let same : change.event ≡ event = c.in-Ok.ensures.event in
    let text : c.deref.result.now ≡ record_text event = search rules in
    let failed : IsErr c.append.result = search rules in
    let some : is_some a.doubt ≡ true = search rules in
    let stays = subst (λ b. StaysWith w p.journal (Some b) a) (text ∙ ap record_text (sym same)) (is_doubted w p.journal c.deref.result.now a some (c.append.ensures.err failed)) in
    subst (λ v. HasRecorded w (Do event (tt {0})) v (Err JournalFault) (desk_of i.setup p.state (Some change) a)) view
    (not_recorded w i.setup p.state i.doubt p.journal a was c.append.ensures.same c.append.ensures.images event (Some (record_text change.event)) stays (Some change) (inr (ap (λ e. Some e) same)))

pub returns-then-in_doubt-clause-any_moment : goal.returns-then-in_doubt-clause-any_moment
returns-then-in_doubt-clause-any_moment g c honest =
    let w = g.D.Disk.words in
    let i = c.self.inside in
    let j = i.journal in
    let p = c.plan_record-prepared.new in
    let a = c.append.new.self in
    let event = c.args.event in
    let change = c.in-Ok.change in
    let none : i.doubt ≡ None = no_change i.doubt (ap (λ v. v.ledger.doubt) c.self.view_is ∙ c.requires.clear) in
    let was = prepared_consistent w i.setup i.state p.state i.doubt j p.journal c.plan_record-prepared.ensures.machine c.plan_record-prepared.ensures.journal none c.self.invariant in
    let view = prepared_view w i.setup i.state p.state i.doubt j p.journal c.plan_record-prepared.ensures.machine c.plan_record-prepared.ensures.journal ∙ c.self.view_is in
    let steps = subst (λ v. IsSome (step_of v.setup v.ledger.machine event)) (sym c.self.view_is) c.requires.step in
    let pend : IsPending i.setup p.state change = c.in-Ok.ensures.pending i.setup steps in
    let same : change.event ≡ event = c.in-Ok.ensures.event in
    let text : c.deref.result.now ≡ record_text event = search rules in
    let failed : IsErr c.append.result = search rules in
    let some : is_some a.doubt ≡ true = search rules in
    let stays = subst (λ b. StaysWith w p.journal (Some b) a) (text ∙ ap record_text (sym same)) (is_doubted w p.journal c.deref.result.now a some (c.append.ensures.err failed)) in
    let here = ap (λ v. w.honest v.disk) view ∙ honest in
    let run = subst (λ b. LeavesOnly w p.journal.disk a.disk (IsTextWithDoubt p.journal.bodies (Some b))) text (c.append.ensures.any_moment here) in
    let later = (desk_of i.setup p.state (Some change) a).ledger in
    let steps_p = subst (λ e. IsSome (step_of i.setup p.state.machine e)) same pend.planned.step in
    let last = found (step_of i.setup p.state.machine event) steps_p in
    let there : (f : List ℕ) → StandsFor i.setup (events_of p.journal.bodies ++ event ∷ []) f → Stands i.setup later f =
    λ f stands. inr (subst (λ bs. StandsFor i.setup (events_of bs ++ change.event ∷ []) f) (sym (stays.bodies here)) (subst (λ e. StandsFor i.setup (events_of p.journal.bodies ++ e ∷ []) f) (sym same) stands)) in
    subst (λ v. LeavesOnly w v.disk a.disk (StandsDuring v.setup v.ledger later)) view (during_event w i.setup p.state i.doubt p.journal a was c.append.ensures.same c.append.ensures.images none here later event last.0 last.1 there run)

pub returns-then-in_doubt-clause-images : goal.returns-then-in_doubt-clause-images
returns-then-in_doubt-clause-images g c =
    let w = g.D.Disk.words in
    let i = c.self.inside in
    let j = i.journal in
    let p = c.plan_record-prepared.new in
    let a = c.append.new.self in
    let event = c.args.event in
    let change = c.in-Ok.change in
    let none : i.doubt ≡ None = no_change i.doubt (ap (λ v. v.ledger.doubt) c.self.view_is ∙ c.requires.clear) in
    let was = prepared_consistent w i.setup i.state p.state i.doubt j p.journal c.plan_record-prepared.ensures.machine c.plan_record-prepared.ensures.journal none c.self.invariant in
    let view = prepared_view w i.setup i.state p.state i.doubt j p.journal c.plan_record-prepared.ensures.machine c.plan_record-prepared.ensures.journal ∙ c.self.view_is in
    let steps = subst (λ v. IsSome (step_of v.setup v.ledger.machine event)) (sym c.self.view_is) c.requires.step in
    let pend : IsPending i.setup p.state change = c.in-Ok.ensures.pending i.setup steps in
    let same : change.event ≡ event = c.in-Ok.ensures.event in
    let text : c.deref.result.now ≡ record_text event = search rules in
    let failed : IsErr c.append.result = search rules in
    let some : is_some a.doubt ≡ true = search rules in
    let stays = subst (λ b. StaysWith w p.journal (Some b) a) (text ∙ ap record_text (sym same)) (is_doubted w p.journal c.deref.result.now a some (c.append.ensures.err failed)) in
    stands_now w i.setup p.state (Some change) a (doubted_consistent w i.setup p.state i.doubt p.journal a was c.append.ensures.same c.append.ensures.images p.state change refl pend stays)

pub invariant_of-self-else-in_doubt : goal.invariant_of-self-else-in_doubt
invariant_of-self-else-in_doubt g c =
    let w = g.D.Disk.words in
    let i = c.self.inside in
    let j = i.journal in
    let p = c.plan_record-prepared.new in
    let a = c.append.new.self in
    let event = c.args.event in
    let change = c.in-Ok.change in
    let none : i.doubt ≡ None = no_change i.doubt (ap (λ v. v.ledger.doubt) c.self.view_is ∙ c.requires.clear) in
    let was = prepared_consistent w i.setup i.state p.state i.doubt j p.journal c.plan_record-prepared.ensures.machine c.plan_record-prepared.ensures.journal none c.self.invariant in
    let view = prepared_view w i.setup i.state p.state i.doubt j p.journal c.plan_record-prepared.ensures.machine c.plan_record-prepared.ensures.journal ∙ c.self.view_is in
    let steps = subst (λ v. IsSome (step_of v.setup v.ledger.machine event)) (sym c.self.view_is) c.requires.step in
    let pend : IsPending i.setup p.state change = c.in-Ok.ensures.pending i.setup steps in
    let same : change.event ≡ event = c.in-Ok.ensures.event in
    let text : c.deref.result.now ≡ record_text event = search rules in
    let failed : IsErr c.append.result = search rules in
    let off : is_some a.doubt ≡ false = search rules in
    let un = is_unwritten w p.journal c.deref.result.now a off (c.append.ensures.err failed) in
    still_consistent w i.setup p.state i.doubt p.journal a was c.append.ensures.same c.append.ensures.images un.stays i.doubt none

pub returns-clause-made : goal.returns-clause-made
returns-clause-made g c =
    let w = g.D.Disk.words in
    let i = c.self.inside in
    let j = i.journal in
    let p = c.plan_record-prepared.new in
    let a = c.append.new.self in
    let event = c.args.event in
    let change = c.in-Ok.change in
    let none : i.doubt ≡ None = no_change i.doubt (ap (λ v. v.ledger.doubt) c.self.view_is ∙ c.requires.clear) in
    let was = prepared_consistent w i.setup i.state p.state i.doubt j p.journal c.plan_record-prepared.ensures.machine c.plan_record-prepared.ensures.journal none c.self.invariant in
    let view = prepared_view w i.setup i.state p.state i.doubt j p.journal c.plan_record-prepared.ensures.machine c.plan_record-prepared.ensures.journal ∙ c.self.view_is in
    let steps = subst (λ v. IsSome (step_of v.setup v.ledger.machine event)) (sym c.self.view_is) c.requires.step in
    let pend : IsPending i.setup p.state change = c.in-Ok.ensures.pending i.setup steps in
    let same : change.event ≡ event = c.in-Ok.ensures.event in
    let text : c.deref.result.now ≡ record_text event = search rules in
    let failed : IsErr c.append.result = search rules in
    let off : is_some a.doubt ≡ false = search rules in
    let un = is_unwritten w p.journal c.deref.result.now a off (c.append.ensures.err failed) in
    subst (λ v. HasRecorded w (Do event (tt {0})) v (Err JournalFault) (desk_of i.setup p.state i.doubt a)) view
    (not_recorded w i.setup p.state i.doubt p.journal a was c.append.ensures.same c.append.ensures.images event None un.stays i.doubt (inl (ap event_in none)))

pub returns-clause-any_moment : goal.returns-clause-any_moment
returns-clause-any_moment g c honest =
    let w = g.D.Disk.words in
    let i = c.self.inside in
    let j = i.journal in
    let p = c.plan_record-prepared.new in
    let a = c.append.new.self in
    let event = c.args.event in
    let change = c.in-Ok.change in
    let none : i.doubt ≡ None = no_change i.doubt (ap (λ v. v.ledger.doubt) c.self.view_is ∙ c.requires.clear) in
    let was = prepared_consistent w i.setup i.state p.state i.doubt j p.journal c.plan_record-prepared.ensures.machine c.plan_record-prepared.ensures.journal none c.self.invariant in
    let view = prepared_view w i.setup i.state p.state i.doubt j p.journal c.plan_record-prepared.ensures.machine c.plan_record-prepared.ensures.journal ∙ c.self.view_is in
    let steps = subst (λ v. IsSome (step_of v.setup v.ledger.machine event)) (sym c.self.view_is) c.requires.step in
    let pend : IsPending i.setup p.state change = c.in-Ok.ensures.pending i.setup steps in
    let same : change.event ≡ event = c.in-Ok.ensures.event in
    let text : c.deref.result.now ≡ record_text event = search rules in
    let failed : IsErr c.append.result = search rules in
    let off : is_some a.doubt ≡ false = search rules in
    let un = is_unwritten w p.journal c.deref.result.now a off (c.append.ensures.err failed) in
    let here = ap (λ v. w.honest v.disk) view ∙ honest in
    let later = (desk_of i.setup p.state i.doubt a).ledger in
    subst (λ v. LeavesOnly w v.disk a.disk (StandsDuring v.setup v.ledger later)) view (during_nothing w i.setup p.state i.doubt p.journal a was c.append.ensures.same c.append.ensures.images none here later (un.any_moment here))

pub returns-clause-images : goal.returns-clause-images
returns-clause-images g c =
    let w = g.D.Disk.words in
    let i = c.self.inside in
    let j = i.journal in
    let p = c.plan_record-prepared.new in
    let a = c.append.new.self in
    let event = c.args.event in
    let change = c.in-Ok.change in
    let none : i.doubt ≡ None = no_change i.doubt (ap (λ v. v.ledger.doubt) c.self.view_is ∙ c.requires.clear) in
    let was = prepared_consistent w i.setup i.state p.state i.doubt j p.journal c.plan_record-prepared.ensures.machine c.plan_record-prepared.ensures.journal none c.self.invariant in
    let view = prepared_view w i.setup i.state p.state i.doubt j p.journal c.plan_record-prepared.ensures.machine c.plan_record-prepared.ensures.journal ∙ c.self.view_is in
    let steps = subst (λ v. IsSome (step_of v.setup v.ledger.machine event)) (sym c.self.view_is) c.requires.step in
    let pend : IsPending i.setup p.state change = c.in-Ok.ensures.pending i.setup steps in
    let same : change.event ≡ event = c.in-Ok.ensures.event in
    let text : c.deref.result.now ≡ record_text event = search rules in
    let failed : IsErr c.append.result = search rules in
    let off : is_some a.doubt ≡ false = search rules in
    let un = is_unwritten w p.journal c.deref.result.now a off (c.append.ensures.err failed) in
    stands_now w i.setup p.state i.doubt a (still_consistent w i.setup p.state i.doubt p.journal a was c.append.ensures.same c.append.ensures.images un.stays i.doubt none)

pub invariant_of-self : goal.invariant_of-self
invariant_of-self g c =
    let w = g.D.Disk.words in
    let i = c.self.inside in
    let j = i.journal in
    let p = c.plan_record-prepared.new in
    let none : i.doubt ≡ None = no_change i.doubt (ap (λ v. v.ledger.doubt) c.self.view_is ∙ c.requires.clear) in
    let was = prepared_consistent w i.setup i.state p.state i.doubt j p.journal c.plan_record-prepared.ensures.machine c.plan_record-prepared.ensures.journal none c.self.invariant in
    let view = prepared_view w i.setup i.state p.state i.doubt j p.journal c.plan_record-prepared.ensures.machine c.plan_record-prepared.ensures.journal ∙ c.self.view_is in
    was

pub returns-in_default-clause-made : goal.returns-in_default-clause-made
returns-in_default-clause-made g c =
    let w = g.D.Disk.words in
    let i = c.self.inside in
    let j = i.journal in
    let p = c.plan_record-prepared.new in
    let none : i.doubt ≡ None = no_change i.doubt (ap (λ v. v.ledger.doubt) c.self.view_is ∙ c.requires.clear) in
    let was = prepared_consistent w i.setup i.state p.state i.doubt j p.journal c.plan_record-prepared.ensures.machine c.plan_record-prepared.ensures.journal none c.self.invariant in
    let view = prepared_view w i.setup i.state p.state i.doubt j p.journal c.plan_record-prepared.ensures.machine c.plan_record-prepared.ensures.journal ∙ c.self.view_is in
    subst (λ x. HasRecorded w (Do c.args.event (tt {0})) c.args.self.now (Err OutOfMemory) x) (sym view) (idle_recorded w (Do c.args.event (tt {0})) c.args.self.now c.requires.clear)

pub returns-in_default-clause-any_moment : goal.returns-in_default-clause-any_moment
returns-in_default-clause-any_moment g c honest =
    let w = g.D.Disk.words in
    let i = c.self.inside in
    let j = i.journal in
    let p = c.plan_record-prepared.new in
    let none : i.doubt ≡ None = no_change i.doubt (ap (λ v. v.ledger.doubt) c.self.view_is ∙ c.requires.clear) in
    let was = prepared_consistent w i.setup i.state p.state i.doubt j p.journal c.plan_record-prepared.ensures.machine c.plan_record-prepared.ensures.journal none c.self.invariant in
    let view = prepared_view w i.setup i.state p.state i.doubt j p.journal c.plan_record-prepared.ensures.machine c.plan_record-prepared.ensures.journal ∙ c.self.view_is in
    let v = c.args.self.now in
    let stays = subst (λ x. (f : List ℕ) → w.may_leave x.disk f → Stands x.setup x.ledger f) view (stands_now w i.setup p.state i.doubt p.journal was (ap (λ x. w.honest x.disk) view ∙ honest)) in
    subst (λ x. LeavesOnly w v.disk x.disk (StandsDuring v.setup v.ledger x.ledger)) (sym view)
    (started w v.disk (StandsDuring v.setup v.ledger v.ledger) (λ f left. inl (stays f (g.met.D.Disk.laws.only_now v.disk f honest left))))

pub returns-in_default-clause-images : goal.returns-in_default-clause-images
returns-in_default-clause-images g c =
    let w = g.D.Disk.words in
    let i = c.self.inside in
    let j = i.journal in
    let p = c.plan_record-prepared.new in
    let none : i.doubt ≡ None = no_change i.doubt (ap (λ v. v.ledger.doubt) c.self.view_is ∙ c.requires.clear) in
    let was = prepared_consistent w i.setup i.state p.state i.doubt j p.journal c.plan_record-prepared.ensures.machine c.plan_record-prepared.ensures.journal none c.self.invariant in
    let view = prepared_view w i.setup i.state p.state i.doubt j p.journal c.plan_record-prepared.ensures.machine c.plan_record-prepared.ensures.journal ∙ c.self.view_is in
    stands_now w i.setup p.state i.doubt p.journal was
