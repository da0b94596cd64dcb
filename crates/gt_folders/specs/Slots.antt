-- A table of slots, each filled or free.
use Rattle.std.specs.Prelude.{Bool, List, None, Option, is_some, slice_index_or, ℕ}

-- whether the slot is there and filled
abbrev pub is_filled : {T : Type 0} → List (Option T) → ℕ → Bool
is_filled slots n = is_some (slice_index_or slots n None)
