-- The setup, as contracts see it, and what is found in it.
use Rattle.std.specs.Option.{option_map_or}
use Rattle.std.specs.Prelude.{Bool, List, Option, [], find, is_some, option_map, position, slice_get, ℕ}
use Rattle.std.specs.List.{list_any}
use Rattle.std.specs.Str.{bytes_eq}
use Rattle.gt_paths.specs.Path.{PathValue}
use Rattle.gt_setup.specs.declared.parts.Collection.{Collection}
use Rattle.gt_setup.specs.declared.parts.Identity.{Identity}
use Rattle.gt_types.specs.declared.rule.Who.{Who}
use Rattle.sha2.specs.Sha256.{sha256}

-- the namespace of identifiers, the identities with their groups, and the collections
pub record Setup : Type 0 where
  pub namespace : ℕ
  pub identities : List Identity
  pub collections : List Collection

-- whether the identity has this identifier
abbrev pub is_identity : List ℕ → Identity → Bool
is_identity id identity = bytes_eq identity.who.identity id

-- the identity with its groups
abbrev pub who_of : Setup → List ℕ → Option Who
who_of setup identity = option_map (λ i. i.who) (find (is_identity identity) setup.identities)

-- whether the setup has the identity
abbrev pub has_identity : Setup → List ℕ → Bool
has_identity setup identity = is_some (who_of setup identity)

-- whether the identity lists the digest among its tokens
abbrev pub lists : List ℕ → Identity → Bool
lists digest identity = list_any (λ token. bytes_eq token digest) identity.tokens

-- the identity that lists the token's digest
abbrev pub identity_of : Setup → List ℕ → Option Who
identity_of setup token = option_map (λ i. i.who) (find (lists (sha256 token)) setup.identities)

-- the number of the collection: its place among the collections
abbrev pub collection_of : Setup → List ℕ → Option ℕ
collection_of setup id = position (λ c. bytes_eq c.id id) setup.collections

-- the identifier of the collection
abbrev pub id_of : Setup → ℕ → List ℕ
id_of setup collection = option_map_or (λ c. c.id) (slice_get setup.collections collection) []

-- the name of the collection
abbrev pub name_of : Setup → ℕ → List ℕ
name_of setup collection = option_map_or (λ c. c.name) (slice_get setup.collections collection) []

-- the owner of the collection
abbrev pub owner_of : Setup → ℕ → List ℕ
owner_of setup collection = option_map_or (λ c. c.owner) (slice_get setup.collections collection) []

-- the folder that `~` stands for in the collection
abbrev pub home_of : Setup → ℕ → PathValue
home_of setup collection = option_map_or (λ c. c.home) (slice_get setup.collections collection) []

-- whether the identity owns the collection
abbrev pub is_owner : Setup → List ℕ → ℕ → Bool
is_owner setup identity collection = bytes_eq (owner_of setup collection) identity
