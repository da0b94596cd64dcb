-- Where the loop over a pattern stands: the pieces before have taken the characters before.
use Rattle.std.proofs.Common.{◌≡◌, ◌≢◌, ◌∙◌, ◌≤◌, ◌<◌, ℕ, List, [], ◌∷◌, ◌++◌, map, drop, length, true, false, ◌&&◌, refl, sym, ap, arith, append_assoc, length-append, length-drop}
use Rattle.gt_select.proofs.MatchLemmas.{AllFit, AllFit-push, is_match-past, is_match_of_end-past, pieces_after-drop, pieces_after-one, pieces_after-star}
use Rattle.gt_select.specs.Pattern.{Piece, Single, fits, is_match, pieces_after, single_at}
use Rattle.gt_select.specs.Pattern.Piece.{Star, One}
use Rattle.gt_select.specs.Reached.{is_match_of_end}

-- of the pattern the rest is to come, and of the name what is left
pub record Passed (pattern name rest left : List ℕ) : Type 0 where
  pub singles : List Single
  pub taken : List ℕ
  pub pieces : pieces_after 0 pattern ≡ map One singles ++ pieces_after 0 rest
  pub characters : name ≡ taken ++ left
  pub fit : AllFit singles taken
  pub shorter : length rest ≤ length pattern

pub passed_none : (pattern name : List ℕ) → Passed pattern name pattern name
passed_none pattern name = record { singles = []; taken = []; pieces = refl; characters = refl; fit = tt; shorter = omega arith }

-- what is ahead decides
pub is_match-passed : (pattern name rest left : List ℕ) → Passed pattern name rest left → is_match (pieces_after 0 pattern) name ≡ is_match (pieces_after 0 rest) left
is_match-passed pattern name rest left p =
    ap (λ l. is_match l name) p.pieces ∙ ap (is_match (map One p.singles ++ pieces_after 0 rest)) p.characters
    ∙ is_match-past p.singles p.taken (pieces_after 0 rest) left p.fit

-- before a star what is ahead decides of each end
pub is_match_of_end-passed : (pattern name behind left : List ℕ) (c : ℕ) → c ≡ 42 → Passed pattern name (c ∷ behind) left
    → is_match_of_end (pieces_after 0 pattern) name ≡ is_match_of_end (pieces_after 0 behind) left
is_match_of_end-passed pattern name behind left c e p =
    ap (λ l. is_match_of_end l name) (p.pieces ∙ ap (λ l. map One p.singles ++ l) (pieces_after-star c behind e))
    ∙ ap (is_match_of_end (map One p.singles ++ Star ∷ pieces_after 0 behind)) p.characters
    ∙ is_match_of_end-past p.singles p.taken (pieces_after 0 behind) left p.fit

pub is_match-passed_star : (pattern name behind left : List ℕ) (c : ℕ) → c ≡ 42 → Passed pattern name (c ∷ behind) left
    → is_match (pieces_after 0 pattern) name ≡ is_match_of_end (pieces_after 0 behind) left
is_match-passed_star pattern name behind left c e p =
    is_match-passed pattern name (c ∷ behind) left p ∙ ap (λ l. is_match l left) (pieces_after-star c behind e)

-- a piece of one character with none left
pub is_match-passed_short : (pattern name cs : List ℕ) (c : ℕ) → c ≢ 42 → Passed pattern name (c ∷ cs) [] → is_match (pieces_after 0 pattern) name ≡ false
is_match-passed_short pattern name cs c other p =
    is_match-passed pattern name (c ∷ cs) [] p ∙ ap (λ l. is_match l []) (pieces_after-one c cs other)

-- a piece that is not for this character
pub is_match-passed_other : (pattern name cs ds : List ℕ) (c d : ℕ) → c ≢ 42 → fits (single_at c cs).0 d ≡ false → Passed pattern name (c ∷ cs) (d ∷ ds)
    → is_match (pieces_after 0 pattern) name ≡ false
is_match-passed_other pattern name cs ds c d other apart p =
    is_match-passed pattern name (c ∷ cs) (d ∷ ds) p ∙ ap (λ l. is_match l (d ∷ ds)) (pieces_after-one c cs other)
    ∙ ap (λ b. b && is_match (pieces_after (single_at c cs).1 cs) ds) apart

-- one piece more
pub passed_more : (pattern name cs ds next : List ℕ) (c d : ℕ) → c ≢ 42 → fits (single_at c cs).0 d ≡ true → next ≡ drop (single_at c cs).1 cs
    → Passed pattern name (c ∷ cs) (d ∷ ds) → Passed pattern name next ds
passed_more pattern name cs ds next c d other fit behind p =
    let single = (single_at c cs).0 in
    let rest : pieces_after 0 (c ∷ cs) ≡ One single ∷ pieces_after 0 next =
    pieces_after-one c cs other ∙ ap (λ l. One single ∷ l) (pieces_after-drop (single_at c cs).1 cs ∙ ap (pieces_after 0) (sym behind)) in
    let fewer : length next ≤ length cs = omega (arith, ap length behind, length-drop (single_at c cs).1 cs) in
    record {
      singles = p.singles ++ single ∷ [];
      taken = p.taken ++ d ∷ [];
      pieces = p.pieces ∙ ap (λ l. map One p.singles ++ l) rest ∙ moved p.singles single (pieces_after 0 next);
      characters = p.characters ∙ sym (append_assoc p.taken (d ∷ []) ds);
      fit = AllFit-push p.singles p.taken single d p.fit fit;
      shorter = omega (arith, fewer, p.shorter);
    }
  where
    moved : (singles : List Single) (single : Single) (pieces : List Piece) → map One singles ++ One single ∷ pieces ≡ map One (singles ++ single ∷ []) ++ pieces
    moved [] single pieces = refl
    moved (s ∷ ss) single pieces = ap (λ l. One s ∷ l) (moved ss single pieces)

-- at a star the lengths have fallen
pub shorter-passed : (pattern name behind left : List ℕ) (c : ℕ) → Passed pattern name (c ∷ behind) left → length behind < length pattern
shorter-passed pattern name behind left c p = omega (arith, p.shorter)

pub fewer-passed : (pattern name rest left : List ℕ) → Passed pattern name rest left → length left ≤ length name
fewer-passed pattern name rest left p = omega (arith, ap length p.characters, length-append p.taken left)
