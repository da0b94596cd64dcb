-- Patterns whose parameters are whole pieces.
use Rattle.std.proofs.Common.{ℕ, List, [], ◌∷◌, Bool, true, ◌==◌, ◌&&◌}
use Rattle.std.specs.Prelude.{if◌then◌else◌, nat_lt}
use Rattle.matchit.specs.Rows.{param_token}
use Rattle.matchit.specs.Seek.{slash}

-- the rest of a pattern is over or begins the next piece
abbrev pub starts_piece : List ℕ → Bool
starts_piece [] = true
starts_piece (t ∷ ts) = t == slash

-- each token is a byte or a parameter, and a parameter is a whole piece to its end
abbrev pub is_shaped : List ℕ → Bool
is_shaped [] = true
is_shaped (t ∷ ts) = nat_lt t 257 && ((if t == param_token then starts_piece ts else true) && is_shaped ts)
