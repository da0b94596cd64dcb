-- What the indexes of pause rules hold.
use Rattle.std.specs.Prelude.{Bool, IfSome, List, None, Option, Some, [], length, min, ℕ, ◌&&◌, ◌+◌, ◌<◌, ◌==◌, ◌^◌, ◌∷◌, ◌≡◌, ◌≤◌}
use Rattle.std.specs.Option.{option_eq}
use Rattle.std.specs.Str.{bytes_eq}
use Rattle.std.specs.declared.cmp.Ordering.{Ordering}
use Rattle.gt_index.specs.Index.{IsIndex}
use Rattle.gt_index.specs.Places.{Places}
use Rattle.gt_pauses.specs.Paused.{has_act}
use Rattle.gt_pauses.specs.Rule.{is_live_pause}
use Rattle.gt_pauses.specs.declared.live.LiveRows.{LiveRows}
use Rattle.gt_pauses.specs.declared.row.PauseAct.{PauseAct}
use Rattle.gt_pauses.specs.declared.row.PauseAct.TheVariants.{Delete, Ls, Mkdir, TransferRead, TransferWrite}
use Rattle.gt_pauses.specs.declared.row.PauseRow.{PauseRow}

-- the rows are numbered in their order, from this number on
abbrev pub IsNumberedFrom : ℕ → List PauseRow → Type 0
IsNumberedFrom next [] = Unit {0}
IsNumberedFrom next (row ∷ rows) = (row.number ≡ next) × IsNumberedFrom (next + 1) rows

-- whether the row is live and has the act's member
abbrev pub is_live_with : PauseAct → PauseRow → Bool
is_live_with act row = is_live_pause row && has_act act row.spec

-- the index of the rows for the act
abbrev pub index_of : PauseAct → LiveRows → Places
index_of TransferRead live = live.transfer_read
index_of TransferWrite live = live.transfer_write
index_of Delete live = live.delete
index_of Ls live = live.ls
index_of Mkdir live = live.mkdir

-- no rule was made or ended after this event
abbrev pub NoneAfter : ℕ → List PauseRow → Type 0
NoneAfter k [] = Unit {0}
NoneAfter k (row ∷ rows) = (row.born ≤ k) × IfSome row.ended (λ ended. ended ≤ k) × NoneAfter k rows

-- each index is of the live rows for its act, `changed` is no event before the last change, and there is room for so many
-- more rows
pub record IsFiledBy {K : Type 0} (cmp : K → K → Ordering) (key : PauseRow → K) (rows : List PauseRow) (capacity : ℕ) (live : LiveRows) (changed room : ℕ) : Type 0 where
  pub numbers : IsNumberedFrom 1 rows
  pub index : (act : PauseAct) → IsIndex cmp key (is_live_with act) rows (index_of act live).places
  pub last : NoneAfter changed rows
  pub reserved : room ≤ capacity
  pub spare : (act : PauseAct) → room ≤ (index_of act live).spare
  pub few : length rows + room < 2 ^ 32

-- whether the row is live, has the act's member, and names just this identity on the collection, or none
abbrev pub is_row_for : PauseAct → ℕ → Option (List ℕ) → PauseRow → Bool
is_row_for act collection identity row =
    is_live_with act row && (row.spec.collection == collection) && option_eq bytes_eq row.spec.identity identity

-- the lesser of the two, of those that there are
abbrev pub lesser : Option ℕ → Option ℕ → Option ℕ
lesser (Some a) (Some b) = Some (min a b)
lesser (Some a) None = Some a
lesser None b = b
