-- What decoding answers.
use Rattle.std.proofs.Common.{◌≡◌, ℕ, true, List, Some, None, Result, Ok, Err, refl, sym, ap, ◌∙◌}
use Rattle.std.specs.Prelude.{IfOk, IsErrOf, IsTrue, MatchResult}
use Rattle.gt_records.specs.declared.fault.DecodeFault.{DecodeFault}
use Rattle.gt_records.specs.declared.fault.DecodeFault.TheVariants as faults
use Rattle.gt_records.specs.ReadingEvents.{event_of}
use Rattle.gt_records.specs.RecordText.{record_text}
use Rattle.gt_records.proofs.EventLaws.{event_given, event_taken}
use Rattle.gt_records.proofs.Laws.{IsBytes}
use Rattle.gt_types.specs.declared.event.Event.{Event}
use Rattle.gt_types.specs.Event.{is_recordable, recordable_collections}

pub has_text : (bytes : List ℕ) (r : Result Event DecodeFault) → IsBytes bytes → IfOk r (λ x. event_of bytes ≡ Some x) → IfOk r (λ x. record_text x ≡ bytes)
has_text bytes (Ok x) fits e = (event_taken bytes x fits e).0
has_text bytes (Err f) fits e = tt

pub has_limits : (bytes : List ℕ) (r : Result Event DecodeFault) → IsBytes bytes → IfOk r (λ x. event_of bytes ≡ Some x) → IfOk r (λ x. IsTrue (is_recordable recordable_collections x))
has_limits bytes (Ok x) fits e = (event_taken bytes x fits e).1
has_limits bytes (Err f) fits e = tt

pub given : (bytes : List ℕ) (x : Event) → is_recordable recordable_collections x ≡ true → record_text x ≡ bytes → event_of bytes ≡ Some x
given bytes x h same = ap event_of (sym same) ∙ event_given x h

pub is_given : (bytes : List ℕ) (r : Result Event DecodeFault) (x : Event) → event_of bytes ≡ Some x → IfOk r (λ y. event_of bytes ≡ Some y)
    → (IsErrOf r faults.NotRecord → event_of bytes ≡ None) → MatchResult r (λ y. y ≡ x) (λ f. f ≡ faults.OutOfMemory)
is_given bytes (Ok y) x e found fault = let both = sym found ∙ e in cc
is_given bytes (Err faults.OutOfMemory) x e found fault = refl
is_given bytes (Err faults.NotRecord) x e found fault = absurd (let both = sym (fault refl) ∙ e in cc)
