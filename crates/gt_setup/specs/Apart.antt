-- What stands once in a setup that was read.
use Rattle.std.specs.Prelude.{List, Ok, Some, [], map, slice_get, ℕ, ◌++◌, ◌≡◌, ◌∷◌}
use Rattle.gt_setup.specs.Grammar.{setup_of}
use Rattle.gt_setup.specs.Setup.{Setup}
use Rattle.gt_setup.specs.declared.parts.Identity.{Identity}

-- what stands at two places of the list stands at one
abbrev pub AreApart : List (List ℕ) → Type 0
AreApart xs = (i j : ℕ) (x : List ℕ) → slice_get xs i ≡ Some x → slice_get xs j ≡ Some x → i ≡ j

-- the digests of the tokens of all identities
abbrev pub tokens_of : List Identity → List (List ℕ)
tokens_of [] = []
tokens_of (identity ∷ identities) = identity.tokens ++ tokens_of identities

-- nothing that names a thing stands twice
pub record StandsOnce (setup : Setup) : Type 0 where
  -- no two tokens have one digest, in one identity or in two
  pub tokens : AreApart (tokens_of setup.identities)
  -- no two identities have one identifier
  pub identities : AreApart (map (λ i. i.who.identity) setup.identities)
  -- nor have two collections
  pub collections : AreApart (map (λ c. c.id) setup.collections)

-- so it is in each setup that was read
abbrev pub ReadStandsOnce : Type 0
ReadStandsOnce = (bytes : List ℕ) (setup : Setup) → setup_of bytes ≡ Ok setup → StandsOnce setup
