-- How the text of an item goes on.
use Rattle.std.proofs.Common.{◌≡◌, ◌++◌, ℕ, List, append_assoc, rules}
use Rattle.std.specs.Prelude.{codes, decimal}

pub item_then : (at : ℕ) (rest : List ℕ) → (codes "[" ++ decimal at ++ codes "]") ++ rest ≡ codes "[" ++ decimal at ++ codes "]" ++ rest
item_then at rest = first_of (simp append_assoc, cc (append_assoc (codes "[") (decimal at ++ codes "]") rest, append_assoc (decimal at) (codes "]") rest), search rules)
