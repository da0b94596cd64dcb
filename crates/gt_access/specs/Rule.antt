-- Access rules by number, and which of them are the same.
use Rattle.std.specs.Prelude.{Bool, List, None, Option, Some, [], false, find, fold, if◌then◌else◌, is_none, map, max, true, ℕ, ◌&&◌, ◌++◌, ◌+◌, ◌==◌, ◌∷◌}
use Rattle.std.specs.Str.{bytes_eq}
use Rattle.gt_access.specs.declared.row.AccessRow.{AccessRow}
use Rattle.gt_paths.specs.Path.{same_path}
use Rattle.gt_types.specs.declared.rule.AccessSpec.{AccessSpec}
use Rattle.gt_types.specs.declared.rule.Principal.{Principal}
use Rattle.gt_types.specs.declared.rule.Principal.TheVariants.{AllAuthenticated, Anonymous, Group, Identity}

-- a row is live until it ends
abbrev pub is_live_access : AccessRow → Bool
is_live_access row = is_none row.ended

-- whether the row is live and has this number
abbrev pub is_live_rule : ℕ → AccessRow → Bool
is_live_rule number row = is_live_access row && (row.number == number)

-- the live row with this number
abbrev pub live_access : ℕ → List AccessRow → Option AccessRow
live_access number rows = find (is_live_rule number) rows

-- the greatest number that a rule got so far, or 0
abbrev pub greatest_number : List AccessRow → ℕ
greatest_number rows = fold max 0 (map (λ row. row.number) rows)

-- the number that the next rule gets: a rule that was replaced keeps its own
abbrev pub next_rule : List AccessRow → ℕ
next_rule rows = greatest_number rows + 1

-- the row of a rule that is made at k
abbrev pub access_row : ℕ → ℕ → ℕ → AccessSpec → AccessRow
access_row number k collection spec =
    record { number = number; collection = collection; spec = spec; born = k; ended = None }

-- the rows and that of a new rule
abbrev pub added_access : ℕ → ℕ → AccessSpec → List AccessRow → List AccessRow
added_access k collection spec rows = rows ++ access_row (next_rule rows) k collection spec ∷ []

-- the rows, of which the live row with this number ends at k
abbrev pub ended_access : ℕ → ℕ → List AccessRow → List AccessRow
ended_access k number rows =
    map (λ row. if is_live_rule number row then record row { ended = Some k } else row) rows

-- the rows, of which the live row ends at k, and one of its number and collection that says this
abbrev pub replaced_access : ℕ → AccessSpec → AccessRow → List AccessRow → List AccessRow
replaced_access k spec row rows = ended_access k row.number rows ++ access_row row.number k row.collection spec ∷ []

-- whether the two principals are one
abbrev pub same_principal : Principal → Principal → Bool
same_principal (Identity a) (Identity b) = bytes_eq a b
same_principal (Group a) (Group b) = bytes_eq a b
same_principal AllAuthenticated AllAuthenticated = true
same_principal Anonymous Anonymous = true
same_principal _ _ = false

-- whether the row is live and is for this collection, principal and path
abbrev pub is_same_rule : ℕ → AccessSpec → AccessRow → Bool
is_same_rule collection spec row =
    is_live_access row && (row.collection == collection) && same_principal row.spec.principal spec.principal
    && same_path row.spec.path spec.path
