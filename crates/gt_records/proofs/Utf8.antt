-- Bytes that are text, and bytes that are not.
use Rattle.std.proofs.Common.{◌≡◌, ℕ, false, List, Some, None}
use Rattle.std.specs.Str.{IsUtf8, is_utf8}
use Rattle.std.proofs.lemmas.Bool.{cases_Bool}
use Rattle.std.proofs.lemmas.Str.{IsUtf8-from_is_utf8, is_utf8-from_IsUtf8}
use Rattle.std.proofs.Common.{inl, inr, refl}
use Rattle.gt_records.specs.Reading.{bytes_at}
use Rattle.gt_records.specs.ReadingFields.{utf8_at}

pub utf8_read : (count : ℕ) (bytes text rest : List ℕ) → bytes_at count bytes ≡ Some (text, rest) → IsUtf8 text → utf8_at count bytes ≡ Some (text, rest)
unfolding utf8_at
utf8_read count bytes text rest e is_text = rw e (rw (is_utf8-from_IsUtf8 text is_text) refl)

pub utf8_refused : (count : ℕ) (bytes text rest : List ℕ) → bytes_at count bytes ≡ Some (text, rest) → ¬ (IsUtf8 text) → utf8_at count bytes ≡ None
unfolding utf8_at
utf8_refused count bytes text rest e no_text =
    let no : is_utf8 text ≡ false = elim (cases_Bool (is_utf8 text)) [ inl h ↦ absurd (no_text (IsUtf8-from_is_utf8 text h)) | inr h ↦ h ] in
    rw e (rw no refl)

pub utf8_short : (count : ℕ) (bytes : List ℕ) → bytes_at count bytes ≡ None → utf8_at count bytes ≡ None
unfolding utf8_at
utf8_short count bytes e = rw e refl
