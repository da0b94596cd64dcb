-- What the indexes of access rules hold.
use Rattle.std.specs.Prelude.{All, Bool, IsTrue, List, [], if◌then◌else◌, false, length, map, slice_index, ℕ, ◌&&◌, ◌+◌, ◌<◌, ◌==◌, ◌∷◌, ◌≡◌, ◌≤◌}
use Rattle.gt_access.specs.Right.{is_named}
use Rattle.gt_access.specs.Rule.{greatest_number, is_live_access, is_same_rule}
use Rattle.gt_access.specs.declared.row.AccessRow.{AccessRow}
use Rattle.gt_paths.specs.Path.{PathValue, same_path}
use Rattle.gt_types.specs.declared.rule.Principal.{Principal}
use Rattle.gt_types.specs.declared.rule.Who.{Who}

-- one more than the last place of the key, or 0 where it is at none
abbrev pub last_of : ℕ → List ℕ → ℕ
last_of key [] = 0
last_of key (x ∷ xs) =
    if last_of key xs == 0 then (if x == key then 1 else 0) else last_of key xs + 1

-- the numbers of the rows
abbrev pub numbers_of : List AccessRow → List ℕ
numbers_of rows = map (λ row. row.number) rows

-- each live row is the last of its number
abbrev pub EndsBeforeNext : List AccessRow → Type 0
EndsBeforeNext [] = Unit {0}
EndsBeforeNext (row ∷ rows) =
    (IsTrue (is_live_access row) → last_of row.number (numbers_of rows) ≡ 0) × EndsBeforeNext rows

-- rules are numbered from 1, `newest` has the place of the last row of each number, and the rows before it have ended
pub record IsNumbered (rows : List AccessRow) (newest : List ℕ) : Type 0 where
  pub from_one : All (λ number. 1 ≤ number) (numbers_of rows)
  pub greatest : greatest_number rows ≡ length newest
  pub places : (n : ℕ) → n < length newest → last_of (n + 1) (numbers_of rows) ≡ slice_index newest n + 1
  pub ended : EndsBeforeNext rows

-- whether the row is live, and is for the collection, the principal and this very path
abbrev pub is_rule_at : ℕ → PathValue → Principal → AccessRow → Bool
is_rule_at collection path principal =
    is_same_rule collection (record { principal = principal; path = path; write = false })

-- whether the row is live, and is for the collection, the caller and this very path
abbrev pub is_rule_of : ℕ → PathValue → Who → AccessRow → Bool
is_rule_of collection path who row =
    is_live_access row && (row.collection == collection) && is_named row.spec.principal who && same_path row.spec.path path
