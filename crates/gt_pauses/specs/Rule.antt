-- Pause rules by number.
use Rattle.std.specs.Prelude.{Bool, List, None, Option, Some, [], find, if◌then◌else◌, is_none, length, map, ℕ, ◌&&◌, ◌++◌, ◌+◌, ◌==◌, ◌∷◌}
use Rattle.gt_pauses.specs.declared.row.PauseRow.{PauseRow}
use Rattle.gt_types.specs.declared.rule.PauseSpec.{PauseSpec}

-- a rule is live until it ends
abbrev pub is_live_pause : PauseRow → Bool
is_live_pause row = is_none row.ended

-- whether the rule is live and has this number
abbrev pub is_live_rule : ℕ → PauseRow → Bool
is_live_rule number row = is_live_pause row && (row.number == number)

-- the live rule with this number
abbrev pub live_pause : ℕ → List PauseRow → Option PauseRow
live_pause number rows = find (is_live_rule number) rows

-- the number that the next rule gets
abbrev pub next_pause : List PauseRow → ℕ
next_pause rows = length rows + 1

-- the row of a rule that is made at k
abbrev pub pause_row : ℕ → ℕ → PauseSpec → PauseRow
pause_row number k spec = record { number = number; spec = spec; born = k; ended = None }

-- the rows and that of a new rule
abbrev pub added_pause : ℕ → PauseSpec → List PauseRow → List PauseRow
added_pause k spec rows = rows ++ pause_row (next_pause rows) k spec ∷ []

-- the rows, of which the live one with this number ends at k
abbrev pub ended_pause : ℕ → ℕ → List PauseRow → List PauseRow
ended_pause k number rows = map (λ row. if is_live_rule number row then record row { ended = Some k } else row) rows
