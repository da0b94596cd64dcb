-- Outcomes are read as they are written.
use Rattle.std.proofs.Common.{◌≡◌, ℕ, Bool, true, false, ◌&&◌, eqb, List, [], ◌∷◌, ◌++◌, Some, refl, sym, ap, ◌∙◌, append_assoc, true≢false, inl, inr}
use Rattle.std.proofs.Math.Bool.{and_assoc}
use Rattle.std.proofs.lemmas.Bool.{eqb-true}
use Rattle.gt_records.specs.Fields.{byte_text, digest_text, number_text, option_text}
use Rattle.gt_records.specs.OutcomeText.{code_number, codes, evidence_text, outcome_fields, outcome_number, outcome_text, side_number, sides}
use Rattle.gt_records.specs.Reading.{number_at, numbered, of_form, ◌⊗◌}
use Rattle.gt_records.specs.ReadingFields.{digest_at}
use Rattle.gt_records.specs.ReadingOutcomes.{code_at, evidence_at, mismatch_at, outcome_at, outcome_forms, side_at}
use Rattle.gt_records.proofs.FieldLaws.{digest_reads, option_reads, u64_reads}
use Rattle.gt_records.proofs.FormLaws.{FormTakes, FormsTake, forms_take, made_form}
use Rattle.gt_records.proofs.Laws.{Follows, Reads, Reads-as, Reads-both, Reads-coded, Reads-led, Reads-mapped, byte_reads, chosen, mapped_again, some_is}
use Rattle.gt_types.specs.Outcome.{is_evidence, is_recordable_outcome}
use Rattle.gt_types.specs.declared.act.Side.{Side}
use Rattle.gt_types.specs.declared.act.Side.TheVariants.{Destination, Source}
use Rattle.gt_types.specs.declared.code.Code.{Code}
use Rattle.gt_types.specs.declared.code.Code.TheVariants.{FileNotFound, FolderTooLarge, ItemLimit, NotEmpty, PathTooLong, PermissionDenied, TreeFault as TreeFaults, VerifyMismatch, WrongKind}
use Rattle.gt_types.specs.declared.outcome.Evidence.{Evidence}
use Rattle.gt_types.specs.declared.outcome.Outcome.{Outcome}
use Rattle.gt_types.specs.declared.outcome.Outcome.TheVariants.{Copied, Expanded, Failed, Listed, Mismatch, Missing, Present, Removed, TreeFault}
use Rattle.gt_values.specs.Forms.{if_there, is_digest, is_u64}
use Rattle.std.specs.Int.{w64}

-- ---- codes and sides

-- the value that a number stands for has that number
numbered_is : {X : Type 0} (number_of : X → ℕ) (xs : List X) (n : ℕ) (x : X) → numbered number_of xs n ≡ Some x → n ≡ number_of x
numbered_is number_of [] n x e = absurd cc
numbered_is number_of (y ∷ ys) n x e =
    elim (chosen (eqb n (number_of y)) (Some y) (numbered number_of ys n) (Some x) e) [
      | inl t ↦ eqb-true n (number_of y) t.0 ∙ ap number_of (some_is y x t.1)
      | inr t ↦ numbered_is number_of ys n x t.1
    ]

code_back : (code : Code) → numbered code_number codes (code_number code) ≡ Some code
code_back FileNotFound = refl
code_back PermissionDenied = refl
code_back WrongKind = refl
code_back NotEmpty = refl
code_back VerifyMismatch = refl
code_back TreeFaults = refl
code_back FolderTooLarge = refl
code_back ItemLimit = refl
code_back PathTooLong = refl

code_reads : Reads code_at (λ code. byte_text (code_number code)) (λ _. true)
unfolding code_at
code_reads = Reads-coded code_number (numbered code_number codes) code_back (numbered_is code_number codes)

side_back : (side : Side) → numbered side_number sides (side_number side) ≡ Some side
side_back Source = refl
side_back Destination = refl

pub side_reads : Reads side_at (λ side. byte_text (side_number side)) (λ _. true)
unfolding side_at
side_reads = Reads-coded side_number (numbered side_number sides) side_back (numbered_is side_number sides)

-- ---- the fields of each outcome

abbrev is_evidence_form : Evidence → Bool
is_evidence_form e = is_u64 e.size && (is_digest e.source && if_there is_digest e.back)

evidence_reads : Reads evidence_at evidence_text is_evidence
unfolding evidence_at
evidence_reads =
    Reads-as evidence_text is_evidence
    (λ e. sym (append_assoc (number_text w64 e.size) (digest_text e.source) (option_text digest_text e.back)))
    (λ e. sym (and_assoc (is_u64 e.size) (is_digest e.source) (if_there is_digest e.back)))
    (Reads-mapped (λ p. record { size = p.0; source = p.1.0; back = p.1.1 }) (λ e. (e.size, (e.source, e.back))) is_evidence_form
    (λ a h. (refl, h)) (λ b h. (refl, h))
    (Reads-both u64_reads (Reads-both digest_reads (option_reads digest_reads))))

abbrev copied : Evidence × ℕ → Outcome
copied p = Copied p.0 p.1

copied_reads : Reads (evidence_at ⊗ number_at w64) (λ p. outcome_fields (copied p)) (λ p. is_recordable_outcome (copied p))
copied_reads = Reads-both evidence_reads u64_reads

abbrev failed : Code × Side → Outcome
failed p = Failed p.0 p.1

failed_reads : Reads (code_at ⊗ side_at) (λ p. outcome_fields (failed p)) (λ p. is_recordable_outcome (failed p))
failed_reads = Reads-both code_reads side_reads

abbrev faulted : ℕ × ℕ → Outcome
faulted p = TreeFault p.0 p.1

faulted_reads : Reads (number_at w64 ⊗ number_at w64) (λ p. outcome_fields (faulted p)) (λ p. is_recordable_outcome (faulted p))
faulted_reads = Reads-both u64_reads u64_reads

abbrev Mismatched : Type 0
Mismatched = ℕ × (List ℕ × (ℕ × (List ℕ × ℕ)))

abbrev mismatched : Mismatched → Outcome
mismatched p = Mismatch p.0 p.1.0 p.1.1.0 p.1.1.1.0 p.1.1.1.1

mismatched_text : (a b c d e : List ℕ) → a ++ (b ++ (c ++ (d ++ e))) ≡ a ++ b ++ c ++ d ++ e
mismatched_text a b c d e = sym (simp append_assoc)

mismatched_form : (a b c d e : Bool) → (a && (b && (c && (d && e)))) ≡ (a && b && c && d && e)
mismatched_form true true true d e = refl
mismatched_form true true false d e = refl
mismatched_form true false c d e = refl
mismatched_form false b c d e = refl

mismatched_reads : Reads (number_at w64 ⊗ digest_at ⊗ number_at w64 ⊗ digest_at ⊗ number_at w64)
    (λ p. outcome_fields (mismatched p)) (λ p. is_recordable_outcome (mismatched p))
mismatched_reads =
    Reads-as (λ p. outcome_fields (mismatched p)) (λ p. is_recordable_outcome (mismatched p))
    (λ (p : Mismatched). mismatched_text (number_text w64 p.0) (digest_text p.1.0) (number_text w64 p.1.1.0) (digest_text p.1.1.1.0) (number_text w64 p.1.1.1.1))
    (λ (p : Mismatched). mismatched_form (is_u64 p.0) (is_digest p.1.0) (is_u64 p.1.1.0) (is_digest p.1.1.1.0) (is_u64 p.1.1.1.1))
    (Reads-both u64_reads (Reads-both digest_reads (Reads-both u64_reads (Reads-both digest_reads u64_reads))))

-- ---- outcomes

mismatch_takes : FormTakes outcome_number outcome_fields is_recordable_outcome (record { number = 9; reader = mismatch_at })
unfolding mismatch_at
mismatch_takes = made_form outcome_number outcome_fields is_recordable_outcome 9 mismatched mismatched_reads (λ p. refl)

outcome_forms_take : FormsTake outcome_number outcome_fields is_recordable_outcome outcome_forms
outcome_forms_take = (
  made_form outcome_number outcome_fields is_recordable_outcome 1 copied copied_reads (λ p. refl),
  (
    made_form outcome_number outcome_fields is_recordable_outcome 7 failed failed_reads (λ p. refl),
    (
      made_form outcome_number outcome_fields is_recordable_outcome 8 faulted faulted_reads (λ p. refl),
      (mismatch_takes, tt),
    ),
  ),
)

outcome_again : (x : Outcome) (rest : List ℕ) → is_recordable_outcome x ≡ true → of_form outcome_forms (outcome_number x) (outcome_fields x ++ rest) ≡ Some (x, rest)
unfolding mismatch_at
outcome_again (Copied evidence checked) rest h = mapped_again copied copied_reads (evidence, checked) rest h
outcome_again (Failed code side) rest h = mapped_again failed failed_reads (code, side) rest h
outcome_again (TreeFault before after) rest h = mapped_again faulted faulted_reads (before, after) rest h
outcome_again (Mismatch size source back_size back checked) rest h = mapped_again mismatched mismatched_reads (size, (source, (back_size, (back, checked)))) rest h
outcome_again (Present level source destination digests checked) rest h = absurd (true≢false (sym h))
outcome_again (Expanded made source destination) rest h = absurd (true≢false (sym h))
outcome_again (Listed entries) rest h = absurd (true≢false (sym h))
outcome_again Removed rest h = absurd (true≢false (sym h))
outcome_again Missing rest h = absurd (true≢false (sym h))

outcome_follows : Follows (of_form outcome_forms) outcome_number outcome_fields is_recordable_outcome
outcome_follows = record {
  takes = forms_take outcome_number outcome_fields is_recordable_outcome outcome_forms outcome_forms_take;
  again = outcome_again;
}

pub outcome_reads : Reads outcome_at outcome_text is_recordable_outcome
unfolding outcome_at
outcome_reads = Reads-as outcome_text is_recordable_outcome (λ _. refl) (λ _. refl) (Reads-led byte_reads outcome_follows)
