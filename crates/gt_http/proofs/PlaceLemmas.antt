-- Bytes that aren't due for a parse have no head.
use Rattle.gt_http.proofs.HeadLemmas.{blank_has_none, line_feed_last, no_head_yet}
use Rattle.gt_http.specs.Place.{ends_in_empty_line, is_due, is_line_byte, place_after}
use Rattle.gt_http.specs.declared.place.Place.{Place}
use Rattle.gt_http.specs.declared.place.Place.TheVariants.{Blank, Fields, StartLine}
use Rattle.httparse.specs.Grammar.{HasNoRequest, LineEnd, crlf, lf, print_end}
use Rattle.std.proofs.Common.{All, Bool, List, [], ap, arith, false, if◌then◌else◌, length-append, nat_eq, not, refl, sym, true, ℕ, ◌&&◌, ◌++◌, ◌==◌, ◌∙◌, ◌∷◌, ◌≡◌, ◌||◌}
use Rattle.std.proofs.lemmas.Bool.{both_ways}
use Rattle.std.proofs.lemmas.List.{drop_at}
use Rattle.std.proofs.lemmas.List.Elements.{All-nil, All-push}
use Rattle.std.specs.Cmp.Lexicographic.{pointwise}
use Rattle.std.specs.List.{ends_with}
use Rattle.std.specs.Prelude.{⊤}

-- before the start line there are empty lines alone
abbrev pub IsSoFar : Place → List ℕ → Type 0
IsSoFar Blank bytes = All (λ b. is_line_byte b ≡ true) bytes
IsSoFar StartLine bytes = ⊤
IsSoFar Fields bytes = ⊤

or_left : (a b : Bool) → a ≡ true → (a || b) ≡ true
or_left a b e = ap (λ v. v || b) e

or_right : (a b : Bool) → b ≡ true → (a || b) ≡ true
or_right true b e = refl
or_right false b e = e

both : (a b : Bool) → a ≡ true → b ≡ true → (a && b) ≡ true
both a b p q = ap (λ v. v && b) p ∙ q

un_not : (a : Bool) → not a ≡ false → a ≡ true
un_not true e = refl
un_not false e = sym e

shows_lf : (front : List ℕ) → ends_with nat_eq (front ++ 10 ∷ 10 ∷ []) (10 ∷ 10 ∷ []) ≡ true
shows_lf front =
    ap (pointwise nat_eq (10 ∷ 10 ∷ [])) (drop_at front (10 ∷ 10 ∷ []) _ (omega (arith, length-append front (10 ∷ 10 ∷ []))))

shows_crlf : (front : List ℕ) → ends_with nat_eq (front ++ 10 ∷ 13 ∷ 10 ∷ []) (10 ∷ 13 ∷ 10 ∷ []) ≡ true
shows_crlf front =
    ap (pointwise nat_eq (10 ∷ 13 ∷ 10 ∷ [])) (drop_at front (10 ∷ 13 ∷ 10 ∷ []) _ (omega (arith, length-append front (10 ∷ 13 ∷ 10 ∷ []))))

shows : (front bytes : List ℕ) (last : LineEnd) → bytes ≡ front ++ 10 ∷ print_end last → ends_in_empty_line bytes ≡ true
shows front bytes lf e = or_left _ _ (ap (λ s. ends_with nat_eq s (10 ∷ 10 ∷ [])) e ∙ shows_lf front)
shows front bytes crlf e = or_right _ _ (ap (λ s. ends_with nat_eq s (10 ∷ 13 ∷ 10 ∷ [])) e ∙ shows_crlf front)

pub nothing_so_far : IsSoFar Blank []
nothing_so_far = All-nil (λ v. is_line_byte v ≡ true)

pub nothing_has_none : HasNoRequest []
nothing_has_none = blank_has_none [] nothing_so_far

pub kept : (place : Place) (bytes : List ℕ) (b : ℕ) → HasNoRequest bytes → IsSoFar place bytes
    → is_due place b (bytes ++ b ∷ []) ≡ false → HasNoRequest (bytes ++ b ∷ [])
kept Blank bytes b none lines idle =
    blank_has_none _ (All-push (λ v. is_line_byte v ≡ true) bytes b lines (un_not (is_line_byte b) idle))
kept StartLine bytes b none lines idle =
    no_head_yet bytes b none (λ e. both_ways (b == 10) idle (ap (λ v. v == 10) (line_feed_last bytes b e)))
kept Fields bytes b none lines idle =
    no_head_yet bytes b none (λ e. both_ways _ idle (both (b == 10) (ends_in_empty_line (bytes ++ b ∷ []))
    (ap (λ v. v == 10) (line_feed_last bytes b e)) (shows e.front _ e.last e.is)))

pub so_far : (place : Place) (bytes : List ℕ) (b : ℕ) → IsSoFar place bytes → IsSoFar (place_after place b) (bytes ++ b ∷ [])
so_far Blank bytes b lines = stays (is_line_byte b) refl
  where
    stays : (v : Bool) → is_line_byte b ≡ v → IsSoFar (if v then Blank else StartLine) (bytes ++ b ∷ [])
    stays true e = All-push (λ v. is_line_byte v ≡ true) bytes b lines e
    stays false e = tt
so_far StartLine bytes b lines = moves (b == 10)
  where
    moves : (v : Bool) → IsSoFar (if v then Fields else StartLine) (bytes ++ b ∷ [])
    moves true = tt
    moves false = tt
so_far Fields bytes b lines = tt
