-- Where a search in an index ends.
use Rattle.gt_index.specs.Index.{Rises, is_before}
use Rattle.std.specs.Option.{option_cmp, option_map_or}
use Rattle.std.specs.List.{list_all}
use Rattle.std.specs.Ordering.{is_gt, is_lt}
use Rattle.std.specs.Prelude.{Bool, IsTrue, List, Option, Some, drop, false, length, not, take, ℕ, ◌==◌, ◌≤◌}
use Rattle.std.specs.declared.cmp.Ordering.{Ordering}

-- the places before this index pass, and those from it on don't
pub record IsSplit (test : ℕ → Bool) (places : List ℕ) (at : ℕ) : Type 0 where
  pub within : at ≤ length places
  pub front : IsTrue (list_all test (take at places))
  pub rest : IsTrue (list_all (λ place. not (test place)) (drop at places))

-- whether a place is below the key
abbrev pub is_below : {K : Type 0} → (K → K → Ordering) → (ℕ → Option K) → K → ℕ → Bool
is_below cmp key k place = is_lt (option_cmp cmp (key place) (Some k))

-- whether a place isn't above the key
abbrev pub is_upto : {K : Type 0} → (K → K → Ordering) → (ℕ → Option K) → K → ℕ → Bool
is_upto cmp key k place = not (is_gt (option_cmp cmp (key place) (Some k)))

-- whether this place was found
abbrev pub is_at : ℕ → Option ℕ → Bool
is_at place found = option_map_or (λ other. other == place) found false

-- where the place is, or is to be inserted
abbrev pub FindsPlace : {K : Type 0} → (K → K → Ordering) → (ℕ → Option K) → List ℕ → ℕ → ℕ → Type 0
FindsPlace cmp key places place at = Rises cmp key places → IsSplit (λ other. is_before cmp key other place) places at

-- where the first place is that isn't below the key
abbrev pub FindsKey : {K : Type 0} → (K → K → Ordering) → (ℕ → Option K) → List ℕ → K → ℕ → Type 0
FindsKey cmp key places k at = Rises cmp key places → IsSplit (is_below cmp key k) places at
