-- Rows with an index of the live ones.
use Rattle.std.specs.Option.{option_map_or}
use Rattle.std.specs.Prelude.{IfSome, List, Some, [], length, slice_get, slice_set, ℕ, ◌+◌, ◌-◌, ◌<◌, ◌^◌, ◌∷◌, ◌≤◌}
use Rattle.std.specs.declared.cmp.Ordering.{Ordering}
use Rattle.gt_access.specs.Rule.{is_live_access}
use Rattle.gt_access.specs.declared.row.AccessRow.{AccessRow}
use Rattle.gt_index.specs.Index.{IsIndex}
use Rattle.gt_index.specs.Places.{Places}

-- the rows, of which the one at the place ends at k
abbrev pub with_end : ℕ → ℕ → List AccessRow → List AccessRow
with_end k place rows = option_map_or (λ row. slice_set rows place (record row { ended = Some k })) (slice_get rows place) rows

-- no row was made or ended after this event
abbrev pub NoneAfter : ℕ → List AccessRow → Type 0
NoneAfter k [] = Unit {0}
NoneAfter k (row ∷ rows) = (row.born ≤ k) × IfSome row.ended (λ ended. ended ≤ k) × NoneAfter k rows

-- the index is of the live rows, `changed` is no event before the last change, and there is room for so many more rows
pub record IsFiledBy {K : Type 0} (cmp : K → K → Ordering) (key : AccessRow → K) (rows : List AccessRow) (capacity : ℕ) (live : Places) (changed room : ℕ) : Type 0 where
  pub index : IsIndex cmp key is_live_access rows live.places
  pub last : NoneAfter changed rows
  pub reserved : room ≤ capacity - length rows
  pub spare : room ≤ live.spare
  pub few : length rows + room < 2 ^ 32
