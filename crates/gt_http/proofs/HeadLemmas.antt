-- A head ends in an empty line, so that bytes without a head get one by an empty line alone.
use Rattle.httparse.proofs.GrammarLemmas.{print_request-append}
use Rattle.httparse.specs.Grammar.{AllPass, Field, HasNoRequest, LineEnd, ReadsRequest, RequestHead, crlf, is_token_byte, lf, print_blank, print_end, print_field, print_request, print_section}
use Rattle.gt_http.specs.Place.{is_line_byte}
use Rattle.std.proofs.Common.{All, List, [], ap, append-nil, append_assoc, arith, drop, get_or, inl, inr, length, length-append, refl, subst, sym, take, true, ℕ, ◌+◌, ◌++◌, ◌<◌, ◌∙◌, ◌∷◌, ◌≡◌}
use Rattle.std.proofs.lemmas.Bool.{cases_lt}
use Rattle.std.proofs.lemmas.Bool.Decides.{nat_tests}
use Rattle.std.proofs.lemmas.List.{get_or_at, nil_from_length, same_from_push, take-append-drop, take-append-le, take_at}
use Rattle.std.specs.List.{flat_map}

-- the list ends in a line feed
abbrev EndsLine : List ℕ → Type 0
EndsLine s = (front : List ℕ) × (s ≡ front ++ 10 ∷ [])

-- the list ends in an empty line
pub record EndsEmpty (s : List ℕ) : Type 0 where
  pub front : List ℕ
  pub last : LineEnd
  pub is : s ≡ front ++ 10 ∷ print_end last

ends_after : (a s : List ℕ) → EndsLine s → EndsLine (a ++ s)
ends_after a s e = (a ++ e.0, ap (λ t. a ++ t) e.1 ∙ sym (append_assoc a e.0 (10 ∷ [])))

end_ends : (e : LineEnd) → EndsLine (print_end e)
end_ends crlf = (13 ∷ [], refl)
end_ends lf = ([], refl)

field_ends : (f : Field) → EndsLine (print_field f)
field_ends f = ends_after _ (print_end f.end) (end_ends f.end)

fields_end : (a : List ℕ) (fields : List Field) → EndsLine a → EndsLine (a ++ flat_map print_field fields)
fields_end a [] e = subst EndsLine (sym (append-nil a)) e
fields_end a (f ∷ fields) e =
    subst EndsLine (append_assoc a (print_field f) (flat_map print_field fields))
    (fields_end (a ++ print_field f) fields (ends_after a (print_field f) (field_ends f)))

section_ends : (a : List ℕ) (fields : List Field) (last : LineEnd) → EndsLine a → EndsEmpty (a ++ print_section fields last)
section_ends a fields last e =
    let lines = fields_end a fields e in
    record {
      front = lines.0;
      last = last;
      is = sym (append_assoc a (flat_map print_field fields) (print_end last))
          ∙ ap (λ t. t ++ print_end last) lines.1 ∙ append_assoc lines.0 (10 ∷ []) (print_end last);
    }

pub head_ends : (h : RequestHead) → EndsEmpty (print_request h)
unfolding print_request
head_ends h = section_ends _ h.fields h.last (ends_after _ (print_end h.line_end) (end_ends h.line_end))

-- a head at the front of longer bytes is longer than bytes that have none
pub longer : (buf more : List ℕ) (h : RequestHead) (rest : List ℕ) → HasNoRequest buf → ReadsRequest (buf ++ more) h rest
    → length buf < length (print_request h)
longer buf more h rest none reads =
    elim (cases_lt (length buf) (length (print_request h))) [
      | inl lt ↦ lt
      | inr le ↦
          let text = print_request h in
          let front : take (length text) buf ≡ text =
          sym (take-append-le (length text) buf more le) ∙ ap (take (length text)) reads.1 ∙ take_at text rest (length text) refl in
          absurd (none h (drop (length text) buf) (reads.0, sym (take-append-drop (length text) buf) ∙ ap (λ t. t ++ drop (length text) buf) front))
    ]

-- a head that one more byte makes has all the bytes
pub whole_head : (buf : List ℕ) (b : ℕ) (h : RequestHead) (rest : List ℕ) → HasNoRequest buf → ReadsRequest (buf ++ b ∷ []) h rest
    → buf ++ b ∷ [] ≡ print_request h
whole_head buf b h rest none reads =
    let lt = longer buf (b ∷ []) h rest none reads in
    let sides : length buf + 1 ≡ length (print_request h) + length rest =
    sym (length-append buf (b ∷ [])) ∙ ap (length {A = ℕ}) reads.1 ∙ length-append (print_request h) rest in
    let no_rest : rest ≡ [] = nil_from_length rest (omega arith) in
    reads.1 ∙ ap (λ t. print_request h ++ t) no_rest ∙ append-nil (print_request h)

-- the one byte that makes a head ends an empty line
pub no_head_yet : (buf : List ℕ) (b : ℕ) → HasNoRequest buf → ¬ (EndsEmpty (buf ++ b ∷ [])) → HasNoRequest (buf ++ b ∷ [])
no_head_yet buf b none other h rest x =
    other (subst EndsEmpty (sym (whole_head buf b h rest none x)) (head_ends h))

empty_ends : (s : List ℕ) → EndsEmpty s → EndsLine s
empty_ends s e = subst EndsLine (sym e.is) (ends_after e.front (10 ∷ print_end e.last) (ends_after (10 ∷ []) (print_end e.last) (end_ends e.last)))

-- so it is a line feed
pub line_feed_last : (buf : List ℕ) (b : ℕ) → EndsEmpty (buf ++ b ∷ []) → b ≡ 10
line_feed_last buf b e = let line = empty_ends _ e in (same_from_push buf line.0 b 10 line.1).1

-- ---- bytes of empty lines alone

pub no_line_token : (b : ℕ) → is_token_byte b ≡ true → is_line_byte b ≡ true → ⊥
unfolding is_token_byte
no_line_token b token line = grind (arith, nat_tests)

word_stands : (front word tail bytes : List ℕ) → bytes ≡ front ++ (word ++ tail) → 0 < length word
    → AllPass is_token_byte word → All (λ b. is_line_byte b ≡ true) bytes → ⊥
word_stands front [] tail bytes whole some tokens lines = absurd (omega (arith, some))
word_stands front (b ∷ word) tail bytes whole some tokens lines =
    let at : get_or bytes (length front) 0 ≡ b =
    ap (λ (t : List ℕ). get_or t (length front) 0) whole ∙ get_or_at front b (word ++ tail) 0 (length front) refl in
    let inside : length front < length bytes =
    omega (arith, ap (length {A = ℕ}) whole, length-append front (b ∷ (word ++ tail))) in
    no_line_token b (tokens 0 0 (omega arith)) (subst (λ v. is_line_byte v ≡ true) at (lines (length front) 0 inside))

pub blank_has_none : (bytes : List ℕ) → All (λ b. is_line_byte b ≡ true) bytes → HasNoRequest bytes
blank_has_none bytes lines h rest x =
    word_stands (print_blank h.blank) h.method _ bytes (x.1 ∙ print_request-append h rest) x.0.method.0 x.0.method.1 lines
