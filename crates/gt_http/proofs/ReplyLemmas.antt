-- What a sink took of two texts.
use Rattle.gt_http.specs.ReplyText.{TookFront}
use Rattle.gt_streams.specs.declared.sink.Partial.{Partial}
use Rattle.std.proofs.Common.{Err, IfErr, List, Ok, OnOk, Result, ap, append_assoc, arith, drop, false, is_err, length, length-append, length-drop, sym, take, true, ℕ, ◌++◌, ◌<◌, ◌∙◌, ◌≡◌}
use Rattle.std.proofs.lemmas.Bool.{false≢true, true≢false}
use Rattle.std.proofs.lemmas.List.{take-append-drop}

-- a front of the first
pub took_first : (before first second after : List ℕ) (n : ℕ) → n < length first → after ≡ before ++ take n first
    → TookFront before (first ++ second) after
took_first before first second after n fewer took = record {
  front = take n first;
  rest = drop n first ++ second;
  text_is = ap (λ t. t ++ second) (sym (take-append-drop n first)) ∙ append_assoc (take n first) (drop n first) second;
  cut = omega (arith, length-append (drop n first) second, length-drop n first, fewer);
  taken = took;
}

-- the first and a front of the second
pub took_second : (before between first second after : List ℕ) (n : ℕ) → n < length second
    → between ≡ before ++ first → after ≡ between ++ take n second → TookFront before (first ++ second) after
took_second before between first second after n fewer whole took = record {
  front = first ++ take n second;
  rest = drop n second;
  text_is = ap (λ t. first ++ t) (sym (take-append-drop n second)) ∙ sym (append_assoc first (take n second) (drop n second));
  cut = omega (arith, length-drop n second, fewer);
  taken = took ∙ ap (λ t. t ++ take n second) whole ∙ append_assoc before first (take n second);
}

pub took_both : (before between first second after : List ℕ) → between ≡ before ++ first → after ≡ between ++ second
    → after ≡ before ++ (first ++ second)
took_both before between first second after whole took =
    took ∙ ap (λ t. t ++ second) whole ∙ append_assoc before first second

-- the same where the write's answer is known by a test
pub first_failed : (before first second after : List ℕ) (r : Result Unit Partial) → is_err r ≡ true
    → IfErr r (λ e. e.wrote < length first) → IfErr r (λ e. after ≡ before ++ take e.wrote first)
    → TookFront before (first ++ second) after
first_failed before first second after (Ok done) failed room took = absurd (false≢true failed)
first_failed before first second after (Err e) failed room took = took_first before first second after e.wrote room took

pub second_failed : (before between first second after : List ℕ) (r : Result Unit Partial) → is_err r ≡ true
    → IfErr r (λ e. e.wrote < length second) → between ≡ before ++ first
    → IfErr r (λ e. after ≡ between ++ take e.wrote second) → TookFront before (first ++ second) after
second_failed before between first second after (Ok done) failed room whole took = absurd (false≢true failed)
second_failed before between first second after (Err e) failed room whole took =
    took_second before between first second after e.wrote room whole took

pub whole_took : (before bytes after : List ℕ) (r : Result Unit Partial) → is_err r ≡ false
    → OnOk r (after ≡ before ++ bytes) → after ≡ before ++ bytes
whole_took before bytes after (Ok done) good took = took
whole_took before bytes after (Err e) good took = absurd (true≢false good)
