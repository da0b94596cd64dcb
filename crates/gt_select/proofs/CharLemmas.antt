-- Texts as lists of characters: where the first `]` stands.
use Rattle.std.proofs.Common.{◌≡◌, ◌<◌, ◌+◌, ℕ, List, [], ◌∷◌, ◌++◌, length, take, drop, suc, Bool, true, false, refl, sym, ◌∙◌, ap, subst, arith, lit<, Option, Some, None, MatchOption, length-append}
use Rattle.std.specs.Prelude.{◌==◌, position, IsUtf8, chars, cond, not, slice_index, encode_utf8_all}
use Rattle.gt_select.specs.Pattern.{is_match}
use Rattle.std.specs.Borrow.{Bor}
use Rattle.std.specs.List.{position_or_len, prefix_len}
use Rattle.std.specs.Str.{NonePass}
use Rattle.std.proofs.lemmas.Bool.{le-ltb, lt-ltb, ne_eqb}
use Rattle.std.proofs.lemmas.List.{take-append-drop}
use Rattle.std.proofs.lemmas.Str.{IsCharBoundary-before_ascii, IsUtf8-drop, IsUtf8-take, chars-append, chars-nil, chars_from_encodes, chars_past_char, encodes-chars}
use Rattle.std.proofs.lemmas.Str.Pattern.{IsSplitOnceResult}

abbrev is_end : ℕ → Bool
is_end c = c == 93

passed_over : (p : ℕ → Bool) (cs ds : List ℕ) (x : ℕ) → NonePass p cs → p x ≡ true → position_or_len p (cs ++ x ∷ ds) ≡ length cs
passed_over p [] ds x none here = ap (λ b. cond (not b) (1 + prefix_len (λ y. not (p y)) ds) 0) here
passed_over p (c ∷ cs) ds x none here =
    ap (λ b. cond (not b) (1 + position_or_len p (cs ++ x ∷ ds)) 0) none.0
    ∙ ap (λ n. 1 + n) (passed_over p cs ds x none.1 here) ∙ omega arith

passed_all : (p : ℕ → Bool) (cs : List ℕ) → NonePass p cs → position_or_len p cs ≡ length cs
passed_all p [] none = refl
passed_all p (c ∷ cs) none =
    ap (λ b. cond (not b) (1 + position_or_len p cs) 0) none.0 ∙ ap (λ n. 1 + n) (passed_all p cs none.1) ∙ omega arith

-- the first that passes is behind those that don't
position_at : (p : ℕ → Bool) (cs ds : List ℕ) (x : ℕ) → NonePass p cs → p x ≡ true → position p (cs ++ x ∷ ds) ≡ Some (length cs)
position_at p cs ds x none here =
    let at = passed_over p cs ds x none here in
    let within : length cs < length (cs ++ x ∷ ds) = omega (arith, length-append cs (x ∷ ds)) in
    rw (at, lt-ltb (length cs) (length (cs ++ x ∷ ds)) within) refl

position_none : (p : ℕ → Bool) (cs : List ℕ) → NonePass p cs → position p cs ≡ None
position_none p cs none = rw (passed_all p cs none, le-ltb (length cs) (length cs) (omega arith)) refl

-- what `split_once` at `]` says of the characters
pub position-split_once : (text : List ℕ) (r : Option (Bor (List ℕ) × Bor (List ℕ))) → IsUtf8 text → IsSplitOnceResult 93 text r
    → MatchOption r (position is_end (chars text) ≡ None)
    (λ x. (position is_end (chars text) ≡ Some (length (chars x.0.now))) × (chars text ≡ chars x.0.now ++ 93 ∷ chars x.1.now))
position-split_once text None utf8 h =
    subst (λ cs. position is_end cs ≡ None) (chars_from_encodes h.0 text utf8 h.1) (position_none is_end h.0 h.2)
position-split_once text (Some x) utf8 h =
    let i = h.0 in
    let j = h.1 in
    let found = h.2.1 in
    let within : i < length text = omega (arith, found.ends, h.5, h.6, h.7) in
    let ascii : slice_index text i < 128 = rw (found.byte (lit< tt)) (lit< tt) in
    let edge = IsCharBoundary-before_ascii text i within ascii in
    let front = IsUtf8-take text i utf8 edge in
    let back = IsUtf8-drop text i utf8 edge in
    let inner : chars (take i text) ≡ chars x.0.now = ap chars (sym h.3) in
    let whole : chars text ≡ chars x.0.now ++ 93 ∷ chars x.1.now =
    ap chars (sym (take-append-drop i text)) ∙ chars-append (take i text) (drop i text) front
    ∙ ap (λ l. chars (take i text) ++ l) (chars_past_char (drop i text) (drop j text) 93 back found.split)
    ∙ ap (λ l. l ++ 93 ∷ chars (drop j text)) inner ∙ ap (λ l. chars x.0.now ++ 93 ∷ chars l) (sym h.4) in
    let none = h.2.0 in
    let plain : NonePass is_end (chars x.0.now) = subst (NonePass is_end) (chars_from_encodes none.0 (take i text) front none.1 ∙ inner) none.2 in
    (ap (position is_end) whole ∙ position_at is_end (chars x.0.now) (chars x.1.now) 93 plain refl, whole)

-- no piece is left for an empty text alone
pub is_match-nil : (text : List ℕ) → IsUtf8 text → is_match [] (chars text) ≡ (length text == 0)
is_match-nil [] utf8 = ap (is_match []) chars-nil
is_match-nil (b ∷ bs) utf8 = by (chars (b ∷ bs)) (encodes-chars (b ∷ bs) utf8) ∙ sym (ne_eqb (suc (length bs)) 0 (omega arith))
  where
    by : (cs : List ℕ) → encode_utf8_all cs ≡ b ∷ bs → is_match [] cs ≡ false
    by [] e = cc
    by (c ∷ cs) e = refl
