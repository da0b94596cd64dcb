-- Going over pieces of one character each, up to a star or the end.
use Rattle.std.proofs.Common.{◌≡◌, ◌∙◌, ℕ, zero, suc, List, [], ◌∷◌, ◌++◌, map, drop, cond, Bool, true, false, ◌&&◌, ◌||◌, refl, sym, ap, inl, inr}
use Rattle.std.specs.Prelude.{◌≢◌}
use Rattle.std.proofs.lemmas.Bool.{eq-eqb, ne_eqb, or_cases, and_parts, true≢false}
use Rattle.gt_select.specs.Pattern.{Piece, Single, fits, is_match, pieces_after, single_at}
use Rattle.gt_select.specs.Pattern.Piece.{Star, One}
use Rattle.gt_select.specs.Reached.{is_match_of_end}

-- ---- the pieces of a text

pub pieces_after-drop : (skip : ℕ) (text : List ℕ) → pieces_after skip text ≡ pieces_after 0 (drop skip text)
pieces_after-drop zero text = refl
pieces_after-drop (suc skip) [] = refl
pieces_after-drop (suc skip) (c ∷ cs) = pieces_after-drop skip cs

pub pieces_after-star : (c : ℕ) (cs : List ℕ) → c ≡ 42 → pieces_after 0 (c ∷ cs) ≡ Star ∷ pieces_after 0 cs
pieces_after-star c cs e =
    ap (λ b. cond b (Star ∷ pieces_after 0 cs) (One (single_at c cs).0 ∷ pieces_after (single_at c cs).1 cs)) (eq-eqb c 42 e)

pub pieces_after-one : (c : ℕ) (cs : List ℕ) → c ≢ 42 → pieces_after 0 (c ∷ cs) ≡ One (single_at c cs).0 ∷ pieces_after (single_at c cs).1 cs
pieces_after-one c cs other =
    ap (λ b. cond b (Star ∷ pieces_after 0 cs) (One (single_at c cs).0 ∷ pieces_after (single_at c cs).1 cs)) (ne_eqb c 42 other)

-- ---- pieces that have taken their characters

-- each of the characters is one that its piece stands for
abbrev pub AllFit : List Single → List ℕ → Type 0
AllFit [] [] = Unit {0}
AllFit [] (c ∷ cs) = ⊥
AllFit (s ∷ ss) [] = ⊥
AllFit (s ∷ ss) (c ∷ cs) = (fits s c ≡ true) × AllFit ss cs

pub AllFit-push : (singles : List Single) (text : List ℕ) (s : Single) (c : ℕ) → AllFit singles text → fits s c ≡ true → AllFit (singles ++ s ∷ []) (text ++ c ∷ [])
AllFit-push [] [] s c all fit = (fit, tt)
AllFit-push [] (d ∷ ds) s c all fit = absurd all
AllFit-push (t ∷ ts) [] s c all fit = absurd all
AllFit-push (t ∷ ts) (d ∷ ds) s c all fit = (all.0, AllFit-push ts ds s c all.1 fit)

pub is_match-past : (singles : List Single) (text : List ℕ) (rest : List Piece) (left : List ℕ) → AllFit singles text
    → is_match (map One singles ++ rest) (text ++ left) ≡ is_match rest left
is_match-past [] [] rest left all = refl
is_match-past [] (d ∷ ds) rest left all = absurd all
is_match-past (t ∷ ts) [] rest left all = absurd all
is_match-past (t ∷ ts) (d ∷ ds) rest left all =
    ap (λ b. b && is_match (map One ts ++ rest) (ds ++ left)) all.0 ∙ is_match-past ts ds rest left all.1

-- ---- ends of what is left

or_absorbs : (t x : Bool) → (x ≡ true → t ≡ true) → (t || x) ≡ t
or_absorbs true x h = refl
or_absorbs false true h = sym (h refl)
or_absorbs false false h = refl

or_twice : (m s : Bool) → ((m || s) || s) ≡ (m || s)
or_twice true s = refl
or_twice false true = refl
or_twice false false = refl

or_false : (m : Bool) → (m || false) ≡ m
or_false true = refl
or_false false = refl

or_right : (m s : Bool) → s ≡ true → (m || s) ≡ true
or_right true s h = refl
or_right false s h = h

-- a match of the whole is one of an end
pub of_whole : (pieces : List Piece) (name : List ℕ) → is_match pieces name ≡ true → is_match_of_end pieces name ≡ true
of_whole pieces [] h = ap (λ b. b || false) h
of_whole pieces (c ∷ cs) h = ap (λ b. b || is_match_of_end pieces cs) h

-- an end of an end is an end
of_ends : (rest : List Piece) (left : List ℕ) → is_match_of_end (Star ∷ rest) left ≡ is_match_of_end rest left
of_ends rest [] = or_false (is_match rest [] || false)
of_ends rest (c ∷ cs) =
    ap (λ b. (is_match rest (c ∷ cs) || is_match_of_end rest cs) || b) (of_ends rest cs) ∙ or_twice (is_match rest (c ∷ cs)) (is_match_of_end rest cs)

-- without the first piece an end matches as well
of_later : (s : Single) (rest : List Piece) (name : List ℕ) → is_match_of_end (One s ∷ rest) name ≡ true → is_match_of_end rest name ≡ true
of_later s rest [] h = absurd (true≢false (sym h))
of_later s rest (c ∷ cs) h =
    elim (or_cases (fits s c && is_match rest cs) (is_match_of_end (One s ∷ rest) cs) h) [
      | inl here ↦ or_right (is_match rest (c ∷ cs)) (is_match_of_end rest cs) (of_whole rest cs (and_parts (fits s c) (is_match rest cs) here).1)
      | inr later ↦ or_right (is_match rest (c ∷ cs)) (is_match_of_end rest cs) (of_later s rest cs later)
    ]

-- once a star is reached, only the ends of what is left count
pub is_match_of_end-past : (singles : List Single) (text : List ℕ) (rest : List Piece) (left : List ℕ) → AllFit singles text
    → is_match_of_end (map One singles ++ Star ∷ rest) (text ++ left) ≡ is_match_of_end rest left
is_match_of_end-past [] [] rest left all = of_ends rest left
is_match_of_end-past [] (d ∷ ds) rest left all = absurd all
is_match_of_end-past (t ∷ ts) [] rest left all = absurd all
is_match_of_end-past (t ∷ ts) (d ∷ ds) rest left all =
    let pieces = map One ts ++ Star ∷ rest in
    let name = ds ++ left in
    let later = is_match_of_end-past ts ds rest left all.1 in
    ap (λ b. (b && is_match pieces name) || is_match_of_end (One t ∷ pieces) name) all.0
    ∙ ap (λ b. b || is_match_of_end (One t ∷ pieces) name) (is_match-past ts ds (Star ∷ rest) left all.1)
    ∙ or_absorbs (is_match_of_end rest left) (is_match_of_end (One t ∷ pieces) name) (λ h. sym later ∙ of_later t pieces name h)
