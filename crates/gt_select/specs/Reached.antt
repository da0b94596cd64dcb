-- What going over a pattern up to its next `*` tells.
use Rattle.gt_select.specs.Pattern.{Piece, ends, is_match, pieces_after}
use Rattle.gt_select.specs.declared.reach.Reached.{Reached}
use Rattle.gt_select.specs.declared.reach.Reached.TheVariants.{AtStar, Ended}
use Rattle.std.specs.List.{list_any}
use Rattle.std.specs.Prelude.{Bool, List, ℕ, ◌<◌, ◌≡◌, ◌≤◌, length}
use Rattle.std.specs.Str.{chars}

-- whether some end of the name fits what the pattern's pieces say
abbrev pub is_match_of_end : List Piece → List ℕ → Bool
is_match_of_end pieces name = list_any (is_match pieces) (ends name)

-- at a star, the name matches where some end of what is left does, and then none of its own ends needs to be tried;
-- with no star ahead it is told whether the name matches
abbrev pub Tells : List ℕ → List ℕ → Reached → Type 0
Tells pattern name (AtStar behind left) =
    (is_match (pieces_after 0 (chars pattern)) (chars name) ≡ is_match_of_end (pieces_after 0 (chars behind.now)) (chars left.now))
    × (is_match_of_end (pieces_after 0 (chars pattern)) (chars name) ≡ is_match_of_end (pieces_after 0 (chars behind.now)) (chars left.now))
    × (length (chars behind.now) < length (chars pattern)) × (length (chars left.now) ≤ length (chars name))
Tells pattern name (Ended matched) = is_match (pieces_after 0 (chars pattern)) (chars name) ≡ matched
