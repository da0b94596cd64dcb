-- Which claimed item an act is in conflict with.
use Rattle.std.specs.FinMap.{FinMap, get}
use Rattle.std.specs.List.{list_any}
use Rattle.std.specs.Option.{option_map_or}
use Rattle.std.specs.Ordering.{nat_cmp}
use Rattle.std.specs.Prelude.{Bool, IsTrue, false, ℕ, ◌≤◌}
use Rattle.gt_claims.specs.declared.claim.Claim.{Claim}
use Rattle.gt_paths.specs.Path.{PathValue}
use Rattle.gt_types.specs.Conflict.{conflicts, meet, touched_spots}
use Rattle.gt_types.specs.declared.act.Act.{Act}

-- the claim of an act on these collections of its task
abbrev pub claim_of : ℕ → ℕ → Act → Claim
claim_of source destination act = record { act = act; source = source; destination = destination }

-- whether the act is in conflict with the act that is claimed
abbrev pub conflicts_with : ℕ → ℕ → Act → Claim → Bool
conflicts_with source destination act claim = conflicts source destination act claim.source claim.destination claim.act

-- whether the claim reads or writes a path that overlaps with this path of the collection
abbrev pub uses : ℕ → PathValue → Claim → Bool
uses collection path claim =
    list_any (meet (record { collection = collection; path = path })) (touched_spots claim.source claim.destination claim.act)

-- whether the item is claimed, and its claim passes
abbrev pub is_claimed_with : (Claim → Bool) → FinMap nat_cmp Claim → ℕ → Bool
is_claimed_with test claims item = option_map_or test (get claims item) false

-- the item's claim passes, and that of no lesser one
pub record IsLeastClaimed (test : Claim → Bool) (claims : FinMap nat_cmp Claim) (item : ℕ) : Type 0 where
  pub passes : IsTrue (is_claimed_with test claims item)
  pub least : (other : ℕ) → IsTrue (is_claimed_with test claims other) → item ≤ other

-- whether the item is claimed, and the act is in conflict with its claim
abbrev pub is_in_conflict : ℕ → ℕ → Act → FinMap nat_cmp Claim → ℕ → Bool
is_in_conflict source destination act = is_claimed_with (conflicts_with source destination act)

-- the item is in conflict with the act, and no lesser one is
abbrev pub IsLeastConflict : ℕ → ℕ → Act → FinMap nat_cmp Claim → ℕ → Type 0
IsLeastConflict source destination act = IsLeastClaimed (conflicts_with source destination act)
