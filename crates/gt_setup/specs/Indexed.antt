-- What the indexes of a setup hold.
use Rattle.std.specs.BTreeMap.{BTreeMap, get}
use Rattle.std.specs.Cmp.Lexicographic.{slice_cmp}
use Rattle.std.specs.List.{list_any}
use Rattle.std.specs.Option.{option_or}
use Rattle.std.specs.Ordering.{nat_cmp}
use Rattle.std.specs.Prelude.{Bool, List, None, Option, Some, [], if◌then◌else◌, option_map, suc, ℕ, ◌∷◌, ◌≡◌}
use Rattle.std.specs.Str.{bytes_eq}
use Rattle.gt_setup.specs.Setup.{Setup, is_identity, lists}
use Rattle.gt_setup.specs.declared.parts.Collection.{Collection}
use Rattle.gt_setup.specs.declared.parts.Identity.{Identity}
use Rattle.gt_setup.specs.declared.parts.Parts.{Parts}

-- the first place at which the test passes
abbrev pub first_place : {X : Type 0} → (X → Bool) → List X → Option ℕ
first_place test [] = None
first_place test (x ∷ xs) = if test x then Some 0 else option_map (λ place. suc place) (first_place test xs)

-- what the index has at the key
abbrev pub place_at : BTreeMap (List ℕ) ℕ → List ℕ → Option ℕ
place_at places key = get (slice_cmp nat_cmp) places key

-- the index has for each key the first place in the list at which the key's test passes
pub record IsIndexOf {X : Type 0} (test : List ℕ → X → Bool) (xs : List X) (places : BTreeMap (List ℕ) ℕ) : Type 0 where
  pub first : (key : List ℕ) → place_at places key ≡ first_place (test key) xs

-- the index got this value for these keys where it had none, and is as it was at all others
pub record Takes (value : ℕ) (keys : List (List ℕ)) (old new : BTreeMap (List ℕ) ℕ) : Type 0 where
  pub place : (key : List ℕ)
      → place_at new key ≡ option_or (place_at old key) (if list_any (λ k. bytes_eq k key) keys then Some value else None)

-- whether the collection has this identifier
abbrev pub is_collection : List ℕ → Collection → Bool
is_collection id collection = bytes_eq collection.id id

-- identities are found by identifier and by the digest of a token, collections by identifier
pub record IsIndexed (identities : List Identity) (collections : List Collection) (by_id by_digest by_collection : BTreeMap (List ℕ) ℕ) : Type 0 where
  pub identity_ids : IsIndexOf is_identity identities by_id
  pub identity_tokens : IsIndexOf lists identities by_digest
  pub collection_ids : IsIndexOf is_collection collections by_collection

-- the setup that the parts are
abbrev pub setup_from : Parts → Setup
setup_from parts =
    record { namespace = parts.namespace; identities = parts.identities.items; collections = parts.collections.items }
