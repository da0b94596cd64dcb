-- The parts of a target: its front, what stands behind the first `?`, and the pieces of the front.
use Rattle.std.specs.List.{position_or_len, slice_split}
use Rattle.std.specs.Prelude.{List, Option, drop, option_and_then, slice_get, take, ℕ, ◌+◌, ◌==◌}
use Rattle.gt_values.specs.IdText.{id_of}

-- the place of the first `?`, or the end
abbrev pub cut_at : List ℕ → ℕ
cut_at target = position_or_len (λ b. b == 63) target

-- what stands before the first `?`
abbrev pub front_of : List ℕ → List ℕ
front_of target = take (cut_at target) target

-- what stands behind it
abbrev pub query_of : List ℕ → List ℕ
query_of target = drop (cut_at target + 1) target

-- the identifier that a piece of the front is; slashes part the pieces, which count from 0
unfoldable pub piece_id : List ℕ → ℕ → Option (List ℕ)
piece_id front place = option_and_then id_of (slice_get (slice_split (λ b. b == 47) front) place)
