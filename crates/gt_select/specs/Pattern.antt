-- What a pattern matches. A text is the list of its characters.
use Rattle.std.specs.List.{list_any}
use Rattle.std.specs.Prelude.{Bool, List, None, Option, Some, [], drop, false, if◌then◌else◌, length, nat_le, not, option_map, position, suc, take, true, zero, ℕ, ◌&&◌, ◌+◌, ◌==◌, ◌∷◌}

-- what stands for one character: any one, one of a class (whether it is negated, and its ranges), or itself
pub data Single : Type 0 where
  AnyOne : Single  -- `?`
  Class : Bool → List (ℕ × ℕ) → Single  -- `[..]`, `[!..]`
  Plain : ℕ → Single

-- a piece of a pattern: `*`, or what stands for one character
pub data Piece : Type 0 where
  Star : Piece
  One : Single → Piece

-- whether the character is in one of the ranges
abbrev pub is_in : ℕ → List (ℕ × ℕ) → Bool
is_in c ranges = list_any (λ range. nat_le range.0 c && nat_le c range.1) ranges

-- whether the character is one that the piece stands for
abbrev pub fits : Single → ℕ → Bool
fits AnyOne c = true
fits (Class negated ranges) c = if negated then not (is_in c ranges) else is_in c ranges
fits (Plain p) c = p == c

-- each end of the name, the whole name first
abbrev pub ends : List ℕ → List (List ℕ)
ends [] = [] ∷ []
ends (c ∷ cs) = (c ∷ cs) ∷ ends cs

-- `*` and a rest match a name where the rest matches some end of it
abbrev pub is_match : List Piece → List ℕ → Bool
is_match [] [] = true
is_match [] (c ∷ cs) = false
is_match (Star ∷ rest) name = list_any (is_match rest) (ends name)
is_match (One single ∷ rest) [] = false
is_match (One single ∷ rest) (c ∷ cs) = fits single c && is_match rest cs

-- the ranges of a class's members, from the left; a member alone is the range of itself
abbrev pub ranges : List ℕ → List (ℕ × ℕ)
ranges [] = []
ranges (a ∷ []) = (a, a) ∷ []
ranges (a ∷ b ∷ []) = (a, a) ∷ (b, b) ∷ []
ranges (a ∷ dash ∷ b ∷ rest) = if dash == 45 then (a, b) ∷ ranges rest else (a, a) ∷ ranges (dash ∷ b ∷ rest)

-- the members of a class that begins there: up to the next `]` that isn't the first of them
abbrev pub members_of : List ℕ → Option (List ℕ)
members_of [] = None
members_of (c ∷ cs) = option_map (λ n. c ∷ take n cs) (position (λ x. x == 93) cs)

-- whether the text begins with `!`
abbrev pub is_negated : List ℕ → Bool
is_negated [] = false
is_negated (c ∷ cs) = c == 33

-- the class of these members, or a `[` that stands for itself where no class ends; and how many characters follow the `[` in it
abbrev pub class_or_bracket : Bool → Option (List ℕ) → Single × ℕ
class_or_bracket negated None = (Plain 91, 0)
class_or_bracket negated (Some members) =
    (Class negated (ranges members), if negated then length members + 2 else length members + 1)

-- what the character and those after it stand for as one piece, and how many of those after it are in the piece
abbrev pub single_at : ℕ → List ℕ → Single × ℕ
single_at c cs =
    if c == 63 then (AnyOne, 0)
    else if c == 91 then class_or_bracket (is_negated cs) (members_of (if is_negated cs then drop 1 cs else cs))
    else (Plain c, 0)

-- the pieces of a pattern, of which the first `skip` characters are in a piece before
abbrev pub pieces_after : ℕ → List ℕ → List Piece
pieces_after skip [] = []
pieces_after (suc skip) (c ∷ cs) = pieces_after skip cs
pieces_after zero (c ∷ cs) =
    if c == 42 then Star ∷ pieces_after 0 cs
    else One (single_at c cs).0 ∷ pieces_after (single_at c cs).1 cs

-- whether the pattern matches the name
unfoldable pub matches : List ℕ → List ℕ → Bool
matches pattern name = is_match (pieces_after 0 pattern) name
