-- What a buffer holds after a call that appends to it.
use Rattle.std.specs.Prelude.{List, length, take, ℕ, ◌≡◌}

-- the old bytes still stand at the front
pub record Keeps (old new : List ℕ) : Type 0 where
  pub front : take (length old) new ≡ old
