-- The setup that the bytes of a setup file stand for, or the first fault of the file.
use Rattle.std.specs.List.{list_any}
use Rattle.std.specs.Option.{ok_or, option_and_then}
use Rattle.std.specs.Prelude.{Err, List, None, Ok, Option, Result, Some, [], codes, find, if◌then◌else◌, length, map, nat_lt, not, ℕ, ◌+◌, ◌++◌, ◌∷◌}
use Rattle.std.specs.Str.{bytes_eq, is_utf8}
use Rattle.gt_setup.specs.Setup.{Setup, has_identity}
use Rattle.gt_setup.specs.Value.{groups_in, home_in, id_in, name_in, namespace_in, rows_in, tokens_in}
use Rattle.gt_setup.specs.declared.fault.SetupFault.{SetupFault}
use Rattle.gt_setup.specs.declared.fault.SetupFault.TheVariants.{BadValue, Missing, NotToml, TooLong, Twice, UnknownIdentity}
use Rattle.gt_setup.specs.declared.parts.Collection.{Collection}
use Rattle.gt_setup.specs.declared.parts.Identity.{Identity}
use Rattle.gt_values.specs.Results.{◌>>=◌}
use Rattle.toml.specs.Data.{Data, Items, Members, get, get_member, item, no_items}
use Rattle.toml.specs.Parse.{parse_document}

-- what the key's value stands for, or the key's fault: there has to be a value, and it has to stand for something
abbrev pub judged : {A : Type 0} → List ℕ → ℕ → Option Data → Option A → Result A SetupFault
judged key row None meant = Err (Missing key row)
judged key row (Some d) meant = ok_or meant (BadValue key row)

-- what the value at the key stands for by this meaning
abbrev pub required : {A : Type 0} → List ℕ → ℕ → (Data → Option A) → Option Data → Result A SetupFault
required key row meaning value = judged key row value (option_and_then meaning value)

-- the identity of this row, where these tokens stand in earlier rows
unfoldable pub identity_at : ℕ → List (List ℕ) → Data → Result Identity SetupFault
identity_at row earlier d = do
  id ← required (codes "identity.id") row id_in (get (codes "id") d)
  name ← required (codes "identity.name") row name_in (get (codes "name") d)
  tokens ← required (codes "identity.tokens") row (tokens_in earlier) (get (codes "tokens") d)
  groups ← required (codes "identity.groups") row groups_in (get (codes "groups") d)
  Ok (record { who = record { identity = id; groups = groups }; name = name; tokens = tokens })

-- the identities from this row on
abbrev pub identities_from : ℕ → List (List ℕ) → Items → Result (List Identity) SetupFault
identities_from row earlier no_items = Ok []
identities_from row earlier (item d ds) =
    identity_at row earlier d
    >>= (λ identity. identities_from (row + 1) (earlier ++ identity.tokens) ds
    >>= (λ rest. Ok (identity ∷ rest)))

-- the collection of this row
unfoldable pub collection_at : ℕ → Data → Result Collection SetupFault
collection_at row d = do
  id ← required (codes "collection.id") row id_in (get (codes "id") d)
  name ← required (codes "collection.name") row name_in (get (codes "name") d)
  owner ← required (codes "collection.owner") row id_in (get (codes "owner") d)
  home ← required (codes "collection.home") row home_in (get (codes "home") d)
  Ok (record { id = id; name = name; owner = owner; home = home })

-- the collections from this row on
abbrev pub collections_from : ℕ → Items → Result (List Collection) SetupFault
collections_from row no_items = Ok []
collections_from row (item d ds) =
    collection_at row d >>= (λ collection. collections_from (row + 1) ds >>= (λ rest. Ok (collection ∷ rest)))

-- the identities and the collections of the file's table
unfoldable pub identities_of : Members → Result (List Identity) SetupFault
identities_of ms = do
  rows ← required (codes "identity") 0 rows_in (get_member (codes "identity") ms)
  identities_from 0 [] rows

unfoldable pub collections_of : Members → Result (List Collection) SetupFault
collections_of ms = do
  rows ← required (codes "collection") 0 rows_in (get_member (codes "collection") ms)
  collections_from 0 rows

-- key by key, and row by row within each array
unfoldable pub parts_of : Members → Result Setup SetupFault
parts_of ms = do
  namespace ← required (codes "namespace") 0 namespace_in (get_member (codes "namespace") ms)
  identities ← identities_of ms
  collections ← collections_of ms
  Ok (record { namespace = namespace; identities = identities; collections = collections })

-- the first identifier that stands earlier in its list
abbrev pub repeated_among : List (List ℕ) → List (List ℕ) → Option (List ℕ)
repeated_among earlier [] = None
repeated_among earlier (id ∷ ids) =
    if list_any (λ other. bytes_eq other id) earlier then Some id else repeated_among (earlier ++ id ∷ []) ids

-- no identifier, or the fault that names it
abbrev pub none_or : Option (List ℕ) → (List ℕ → SetupFault) → Result (List ℕ) SetupFault
none_or None fault = Ok []
none_or (Some id) fault = Err (fault id)

-- the setup, if identities differ and collections differ
unfoldable pub told_apart : Setup → Result Setup SetupFault
told_apart setup = do
  _ ← none_or (repeated_among [] (map (λ i. i.who.identity) setup.identities)) Twice
  _ ← none_or (repeated_among [] (map (λ c. c.id) setup.collections)) Twice
  Ok setup

-- the first owner that is no identity
abbrev pub unknown_owner : Setup → Option (List ℕ)
unknown_owner setup = find (λ owner. not (has_identity setup owner)) (map (λ c. c.owner) setup.collections)

-- the setup, if each owner is an identity
unfoldable pub owned : Setup → Result Setup SetupFault
owned setup = do
  _ ← none_or (unknown_owner setup) UnknownIdentity
  Ok setup

-- the file's table; bytes that are not UTF-8 are no TOML
abbrev pub table_of : List ℕ → Option Members
table_of bytes = if is_utf8 bytes then parse_document bytes else None

-- the setup that the bytes of a file stand for, or the file's first fault
unfoldable pub setup_of : List ℕ → Result Setup SetupFault
setup_of bytes =
    if nat_lt 1048576 (length bytes) then Err (TooLong (length bytes))
    else (ok_or (table_of bytes) NotToml >>= parts_of >>= told_apart >>= owned)
