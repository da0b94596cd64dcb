-- What the values of fields stand for.
use Rattle.gt_http.specs.Head.{bearer_of}
use Rattle.std.proofs.Common.{Bool, Err, IsUtf8, List, None, Result, Some, ap, arith, codes, drop, false, if◌then◌else◌, is_ok, length, nat_eq, refl, subst, true, ℕ, ◌&&◌, ◌<◌, ◌^◌, ◌∙◌, ◌≡◌, ◌≤◌}
use Rattle.std.proofs.lemmas.Bool.{false≢true}
use Rattle.std.proofs.lemmas.Fmt.{IsAscii-from_digits}
use Rattle.std.proofs.lemmas.Str.{IsUtf8-from_ascii, IsUtf8-from_is_utf8, is_utf8-from_IsUtf8}
use Rattle.std.proofs.lemmas.Str.Parse.{IsNumeralModel, digits_value_short, numerals_by_value, parse_gives, tells_all_ascii_digits}
use Rattle.std.specs.List.{starts_with}
use Rattle.std.specs.Str.{all_ascii_digits}
use Rattle.std.specs.Str.Parse.{ParsesUnsigned, digits_value}

own : IsNumeralModel (λ ds. all_ascii_digits ds ≡ true) (digits_value 10)
own = numerals_by_value _ tells_all_ascii_digits

-- digits are a text
pub digits_are_text : (s : List ℕ) → all_ascii_digits s ≡ true → IsUtf8 s
digits_are_text s digits = IsUtf8-from_ascii s (IsAscii-from_digits s (own.to s digits))

-- up to 19 digits write a number of 8 bytes, so that their parse doesn't fail
pub digits_parse : {E : Type 0} (text s : List ℕ) (e : E) → ParsesUnsigned {E = E} 64 10 text (Err e) → text ≡ s
    → all_ascii_digits s ≡ true → 0 < length s → length s ≤ 19 → ⊥
digits_parse {E} text s e parses same digits some short =
    let small : digits_value 10 s < 10 ^ 19 = digits_value_short own s 19 digits short in
    let given : ParsesUnsigned {E = E} 64 10 s (Err e) = subst (λ t. ParsesUnsigned {E = E} 64 10 t (Err e)) same parses in
    let good = parse_gives own 64 s (Err e) given digits some (omega (arith, small)) in
    false≢true (ap (λ (r : Result ℕ E). is_ok r) good)

chosen : {A : Type 0} (a b : Bool) (x : A) → a ≡ true → b ≡ true → (if a && b then Some x else None) ≡ Some x
chosen a b x p q = ap (λ v. if v && b then Some x else None) p ∙ ap (λ v. if v then Some x else None) q

-- what stands behind the word is the token where it is a text
pub bearer_text : (v : List ℕ) → starts_with nat_eq v (codes "Bearer ") ≡ true → IsUtf8 (drop 7 v) → bearer_of v ≡ Some (drop 7 v)
unfolding bearer_of
bearer_text v word text = chosen _ _ (drop 7 v) word (is_utf8-from_IsUtf8 (drop 7 v) text)

unchosen : {A : Type 0} (a b : Bool) (x : A) → ¬ (b ≡ true) → (if a && b then Some x else None) ≡ None
unchosen true true x wrong = absurd (wrong refl)
unchosen true false x wrong = refl
unchosen false b x wrong = refl

pub bearer_none : (v : List ℕ) → ¬ (IsUtf8 (drop 7 v)) → bearer_of v ≡ None
unfolding bearer_of
bearer_none v wrong = unchosen _ _ (drop 7 v) (λ text. wrong (IsUtf8-from_is_utf8 (drop 7 v) text))
