-- Events are read as they are written, so no text stands for two.
use Rattle.std.proofs.Common.{◌≡◌, ℕ, ◌^◌, Bool, true, false, ◌&&◌, cond, eqb, ltb, List, [], ◌++◌, drop, length, Some, None, refl, sym, ap, subst, ◌∙◌, append_assoc, true≢false}
use Rattle.std.proofs.lemmas.Bool.{and_from, and_parts, eqb-true}
use Rattle.std.proofs.lemmas.List.{append-nil, nil_from_length}
use Rattle.gt_records.specs.Fields.{byte_text, id_text, moment_text, number_text}
use Rattle.gt_records.specs.OutcomeText.{outcome_text}
use Rattle.gt_records.specs.Reading.{mapped, number_at, ◌⊗◌}
use Rattle.gt_records.specs.ReadingFields.{boolean_at, id_at, moment_at}
use Rattle.gt_records.specs.ReadingEvents.{event_at, event_of, happening_at, happening_forms, tagged_at, worker_at}
use Rattle.gt_records.specs.ReadingOutcomes.{outcome_at, side_at}
use Rattle.gt_records.specs.ReadingSpecs.{access_spec_at, transfer_spec_at}
use Rattle.gt_records.specs.RecordText.{fields_text, record_text, tag_of, transfer_spec_text}
use Rattle.gt_records.proofs.FieldLaws.{boolean_reads, id_reads, moment_reads, u32_reads, u64_reads}
use Rattle.gt_records.proofs.FormLaws.{FormTakes, FormsTake, forms_take, lone_form, made_form}
use Rattle.gt_records.proofs.Laws.{Follows, IsBytes, Reads, Reads-as, Reads-both, Reads-checked, Reads-led, Takes, Takes-then, bind_some, byte_reads, guard_some, mapped_again, some_is}
use Rattle.gt_records.proofs.LimitLaws.{same_answer}
use Rattle.gt_records.proofs.OutcomeLaws.{outcome_reads, side_reads}
use Rattle.gt_records.proofs.SpecLaws.{access_spec_reads, is_spec, transfer_spec_reads}
use Rattle.gt_types.specs.declared.act.Side.{Side}
use Rattle.gt_types.specs.declared.event.Event.{Event}
use Rattle.gt_types.specs.declared.event.Happening.{Happening}
use Rattle.gt_types.specs.declared.event.Happening.TheVariants.{AccessAdd, AccessEnd, AccessReplace, Cancel, GrantItem, Issue, PauseAdd, PauseEnd, RefuseItem, ReportItem, Restart, SubmitDelete, SubmitTransfer, Sweep, Update}
use Rattle.gt_types.specs.declared.outcome.Outcome.{Outcome}
use Rattle.gt_types.specs.declared.rule.AccessSpec.{AccessSpec}
use Rattle.gt_types.specs.declared.spec.TransferSpec.{TransferSpec}
use Rattle.gt_types.specs.Event.{has_collections, is_recordable, is_recordable_happening, is_worker, recordable_collections}
use Rattle.gt_types.specs.Outcome.{is_recordable_outcome}
use Rattle.gt_types.specs.SpecForms.{is_transfer_spec}
use Rattle.gt_values.specs.Forms.{is_id, is_moment, is_u64}
use Rattle.gt_values.specs.Grammar.{Read, ◌>>=◌}
use Rattle.std.specs.Int.{w32, w64}

-- what happens within its limits, with collections that four bytes hold
abbrev is_recorded : Happening → Bool
is_recorded what = has_collections recordable_collections what && is_recordable_happening what

-- ---- the fields of each event

abbrev Submission : Type 0
Submission = List ℕ × (List ℕ × TransferSpec)

abbrev submitted : Submission → Happening
submitted p = SubmitTransfer p.0 p.1.0 p.1.1

submission_same : (p : Submission) → (is_id p.0 && (is_id p.1.0 && is_spec p.1.1)) ≡ is_recorded (submitted p)
submission_same p =
    let low = ltb p.1.1.source (2 ^ 32) in
    let high = ltb p.1.1.destination (2 ^ 32) in
    same_answer (is_id p.0 && (is_id p.1.0 && is_spec p.1.1)) (is_recorded (submitted p))
    (λ h.
    let a = and_parts (is_id p.0) (is_id p.1.0 && is_spec p.1.1) h in
    let b = and_parts (is_id p.1.0) (is_spec p.1.1) a.1 in
    let c = and_parts low (high && is_transfer_spec p.1.1) b.1 in
    let d = and_parts high (is_transfer_spec p.1.1) c.1 in
    and_from _ _ (and_from _ _ c.0 d.0) (and_from _ _ (and_from _ _ a.0 b.0) d.1))
    (λ h.
    let a = and_parts (low && high) (is_id p.0 && is_id p.1.0 && is_transfer_spec p.1.1) h in
    let b = and_parts low high a.0 in
    let c = and_parts (is_id p.0 && is_id p.1.0) (is_transfer_spec p.1.1) a.1 in
    let d = and_parts (is_id p.0) (is_id p.1.0) c.0 in
    and_from _ _ d.0 (and_from _ _ d.1 (and_from _ _ b.0 (and_from _ _ b.1 c.1))))

submission_reads : Reads (id_at ⊗ id_at ⊗ transfer_spec_at) (λ p. fields_text (submitted p)) (λ p. is_recorded (submitted p))
submission_reads =
    Reads-as (λ p. fields_text (submitted p)) (λ p. is_recorded (submitted p))
    (λ p. sym (append_assoc (id_text p.0) (id_text p.1.0) (transfer_spec_text p.1.1))) submission_same
    (Reads-both id_reads (Reads-both id_reads transfer_spec_reads))

addition_reads : Reads (number_at w32 ⊗ access_spec_at) (λ p. fields_text (AccessAdd p.0 p.1)) (λ p. is_recorded (AccessAdd p.0 p.1))
addition_reads = Reads-both u32_reads access_spec_reads

and_true : (b : Bool) → (b && true) ≡ b
and_true true = refl
and_true false = refl

and_assoc : (a b c : Bool) → (a && (b && c)) ≡ ((a && b) && c)
and_assoc true b c = refl
and_assoc false b c = refl

replacement_reads : Reads (number_at w64 ⊗ boolean_at) (λ p. fields_text (AccessReplace p.0 p.1)) (λ p. is_recorded (AccessReplace p.0 p.1))
replacement_reads =
    Reads-as (λ p. fields_text (AccessReplace p.0 p.1)) (λ p. is_recorded (AccessReplace p.0 p.1))
    (λ p. refl) (λ p. and_true (is_u64 p.0)) (Reads-both u64_reads boolean_reads)

worker_reads : Reads worker_at byte_text is_worker
unfolding worker_at
worker_reads = Reads-checked is_worker byte_reads

grant_reads : Reads (worker_at ⊗ number_at w64) (λ p. fields_text (GrantItem p.0 p.1)) (λ p. is_recorded (GrantItem p.0 p.1))
grant_reads = Reads-both worker_reads u64_reads

refusal_reads : Reads (number_at w64 ⊗ side_at) (λ p. fields_text (RefuseItem p.0 p.1)) (λ p. is_recorded (RefuseItem p.0 p.1))
refusal_reads =
    Reads-as (λ p. fields_text (RefuseItem p.0 p.1)) (λ p. is_recorded (RefuseItem p.0 p.1))
    (λ p. refl) (λ p. and_true (is_u64 p.0)) (Reads-both u64_reads side_reads)

abbrev Report : Type 0
Report = ℕ × (ℕ × Outcome)

abbrev reported : Report → Happening
reported p = ReportItem p.0 p.1.0 p.1.1

report_reads : Reads (number_at w64 ⊗ number_at w64 ⊗ outcome_at) (λ p. fields_text (reported p)) (λ p. is_recorded (reported p))
report_reads =
    Reads-as (λ p. fields_text (reported p)) (λ p. is_recorded (reported p))
    (λ (p : Report). sym (append_assoc (number_text w64 p.0) (number_text w64 p.1.0) (outcome_text p.1.1)))
    (λ (p : Report). and_assoc (is_u64 p.0) (is_u64 p.1.0) (is_recordable_outcome p.1.1))
    (Reads-both u64_reads (Reads-both u64_reads outcome_reads))

-- ---- what happens, by its tag

happens : {A : Type 0} {reader : List ℕ → Read A} (tag : ℕ) (make : A → Happening) → Reads reader (λ a. fields_text (make a)) (λ a. is_recorded (make a))
    → ((a : A) → tag_of (make a) ≡ tag) → FormTakes tag_of fields_text is_recorded (record { number = tag; reader = mapped make reader })
happens tag make reads is = made_form tag_of fields_text is_recorded tag make reads is

-- the last four
worker_forms_take : FormsTake tag_of fields_text is_recorded (drop 5 happening_forms)
worker_forms_take = (
  happens 11 (λ (p : ℕ × ℕ). GrantItem p.0 p.1) grant_reads (λ p. refl),
  (
    happens 12 (λ (p : ℕ × Side). RefuseItem p.0 p.1) refusal_reads (λ p. refl),
    (
      happens 13 reported report_reads (λ p. refl),
      (lone_form tag_of fields_text is_recorded Restart refl refl, tt),
    ),
  ),
)

happening_forms_take : FormsTake tag_of fields_text is_recorded happening_forms
happening_forms_take = (
  happens 1 Issue id_reads (λ p. refl),
  (
    happens 2 submitted submission_reads (λ p. refl),
    (
      happens 4 (λ (p : ℕ × AccessSpec). AccessAdd p.0 p.1) addition_reads (λ p. refl),
      (
        happens 5 (λ (p : ℕ × Bool). AccessReplace p.0 p.1) replacement_reads (λ p. refl),
        (happens 6 AccessEnd u64_reads (λ p. refl), worker_forms_take),
      ),
    ),
  ),
)

happening_takes : (tag : ℕ) (bytes : List ℕ) (x : Happening) (rest : List ℕ) → IsBytes bytes → happening_at tag bytes ≡ Some (x, rest)
    → Takes bytes (fields_text x) rest × (is_recorded x ≡ true) × (tag_of x ≡ tag)
unfolding happening_at
happening_takes tag bytes x rest fits e = forms_take tag_of fields_text is_recorded happening_forms happening_forms_take tag bytes x rest fits e

-- what no record holds
unrecorded : {P : Type 0} (b : Bool) → (b && false) ≡ true → P
unrecorded b h = absurd (true≢false (sym (and_parts b false h).1))

happening_again : (x : Happening) (rest : List ℕ) → is_recorded x ≡ true → happening_at (tag_of x) (fields_text x ++ rest) ≡ Some (x, rest)
unfolding happening_at
happening_again (Issue identity) rest h = mapped_again Issue id_reads identity rest h
happening_again (SubmitTransfer owner submission spec) rest h = mapped_again submitted submission_reads (owner, (submission, spec)) rest h
happening_again (AccessAdd collection spec) rest h = mapped_again (λ (p : ℕ × AccessSpec). AccessAdd p.0 p.1) addition_reads (collection, spec) rest h
happening_again (AccessReplace rule write) rest h = mapped_again (λ (p : ℕ × Bool). AccessReplace p.0 p.1) replacement_reads (rule, write) rest h
happening_again (AccessEnd rule) rest h = mapped_again AccessEnd u64_reads rule rest h
happening_again (SubmitDelete owner submission spec) rest h = unrecorded (ltb spec.collection (2 ^ 32)) h
happening_again (PauseAdd spec) rest h = unrecorded (ltb spec.collection (2 ^ 32)) h
happening_again (PauseEnd rule) rest h = unrecorded true h
happening_again (Cancel task) rest h = unrecorded true h
happening_again (Update task label deadline) rest h = unrecorded true h
happening_again (GrantItem worker item) rest h = mapped_again (λ (p : ℕ × ℕ). GrantItem p.0 p.1) grant_reads (worker, item) rest h
happening_again (RefuseItem item side) rest h = mapped_again (λ (p : ℕ × Side). RefuseItem p.0 p.1) refusal_reads (item, side) rest h
happening_again (ReportItem item grant outcome) rest h = mapped_again reported report_reads (item, (grant, outcome)) rest h
happening_again (Sweep task) rest h = unrecorded true h
happening_again Restart rest h = refl

-- ---- events

tagged_takes : (tag : ℕ) (bytes : List ℕ) (x : Event) (rest : List ℕ) → IsBytes bytes → tagged_at tag bytes ≡ Some (x, rest)
    → Takes bytes (moment_text x.moment ++ fields_text x.what) rest × ((is_moment x.moment && is_recorded x.what) ≡ true) × (tag_of x.what ≡ tag)
tagged_takes tag bytes x rest fits e =
    let made : ℕ × Happening → Event = λ p. record { moment = p.0; what = p.1 } in
    let a = bind_some ((moment_at ⊗ happening_at tag) bytes) (λ a. Some (made a.0, a.1)) (x, rest) e in
    let b = bind_some (moment_at bytes) (λ m. happening_at tag m.1 >>= (λ w. Some ((m.0, w.0), w.1))) a.0 a.1 in
    let c = bind_some (happening_at tag b.0.1) (λ w. Some ((b.0.0, w.0), w.1)) a.0 b.2 in
    let m = moment_reads.takes bytes b.0.0 b.0.1 fits b.1 in
    let w = happening_takes tag b.0.1 c.0.0 c.0.1 m.0.rest_fits c.1 in
    let pair : (ℕ × Happening) × List ℕ = ((b.0.0, c.0.0), c.0.1) in
    let whole : Event × List ℕ = (made a.0.0, a.0.1) in
    let goal : Event × List ℕ → Type 0 = λ y. Takes bytes (moment_text y.0.moment ++ fields_text y.0.what) y.1 × ((is_moment y.0.moment && is_recorded y.0.what) ≡ true) × (tag_of y.0.what ≡ tag) in
    subst goal (some_is whole (x, rest) a.2)
    (subst (λ (y : (ℕ × Happening) × List ℕ). goal (made y.0, y.1)) (some_is pair a.0 c.2)
    (Takes-then bytes (moment_text b.0.0) b.0.1 (fields_text c.0.0) c.0.1 m.0 w.0, and_from _ _ m.1 w.1, w.2))

tagged_again : (x : Event) (rest : List ℕ) → (is_moment x.moment && is_recorded x.what) ≡ true
    → tagged_at (tag_of x.what) ((moment_text x.moment ++ fields_text x.what) ++ rest) ≡ Some (x, rest)
tagged_again x rest h =
    let parts = and_parts (is_moment x.moment) (is_recorded x.what) h in
    ap (tagged_at (tag_of x.what)) (append_assoc (moment_text x.moment) (fields_text x.what) rest)
    ∙ rw (moment_reads.again x.moment (fields_text x.what ++ rest) parts.0) (rw (happening_again x.what rest parts.1) refl)

tagged_follows : Follows tagged_at (λ x. tag_of x.what) (λ x. moment_text x.moment ++ fields_text x.what) (λ x. is_moment x.moment && is_recorded x.what)
tagged_follows = record { takes = tagged_takes; again = tagged_again }

event_reads : Reads event_at record_text (is_recordable recordable_collections)
unfolding event_at record_text
event_reads =
    Reads-as record_text (is_recordable recordable_collections) (λ x. refl)
    (λ x. and_assoc (is_moment x.moment) (has_collections recordable_collections x.what) (is_recordable_happening x.what))
    (Reads-led byte_reads tagged_follows)

-- ---- all of the bytes

pub event_taken : (bytes : List ℕ) (x : Event) → IsBytes bytes → event_of bytes ≡ Some x → (record_text x ≡ bytes) × (is_recordable recordable_collections x ≡ true)
unfolding event_of
event_taken bytes x fits e =
    let a = bind_some (event_at bytes) (λ event. cond (eqb (length event.1) 0) (Some event.0) None) x e in
    let g = guard_some (eqb (length a.0.1) 0) a.0.0 x a.2 in
    let t = event_reads.takes bytes a.0.0 a.0.1 fits a.1 in
    let nothing : a.0.1 ≡ [] = nil_from_length a.0.1 (eqb-true _ _ g.0) in
    let whole : bytes ≡ record_text a.0.0 = t.0.parts ∙ ap (λ (r : List ℕ). record_text a.0.0 ++ r) nothing ∙ append-nil (record_text a.0.0) in
    subst (λ (y : Event). (record_text y ≡ bytes) × (is_recordable recordable_collections y ≡ true)) g.1 (sym whole, t.1)

pub event_given : (x : Event) → is_recordable recordable_collections x ≡ true → event_of (record_text x) ≡ Some x
unfolding event_of
event_given x h =
    let read : event_at (record_text x) ≡ Some (x, []) = ap event_at (sym (append-nil (record_text x))) ∙ event_reads.again x [] h in
    rw read refl

pub event_unique : (a b : Event) → is_recordable recordable_collections a ≡ true → is_recordable recordable_collections b ≡ true → record_text a ≡ record_text b → a ≡ b
event_unique a b ha hb same = some_is a b (sym (event_given a ha) ∙ ap event_of same ∙ event_given b hb)
