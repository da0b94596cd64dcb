-- Task rows: who made a task, and the rows with one more.
use Rattle.std.specs.Prelude.{Bool, List, Option, [], find, length, option_map, ℕ, ◌&&◌, ◌++◌, ◌+◌, ◌∷◌}
use Rattle.std.specs.Str.{bytes_eq}
use Rattle.gt_tasks.specs.declared.row.TaskRow.{TaskRow}

-- whether the owner made the task with this submission identifier
abbrev pub is_of : List ℕ → List ℕ → TaskRow → Bool
is_of owner submission row = bytes_eq row.owner owner && bytes_eq row.submission submission

-- the number of the first task that the owner made with this submission identifier
abbrev pub number_of : List ℕ → List ℕ → List TaskRow → Option ℕ
number_of owner submission rows = option_map (λ row. row.number) (find (is_of owner submission) rows)

-- the number of the next task
abbrev pub next_task : List TaskRow → ℕ
next_task rows = length rows + 1

-- the rows with this one at the end, under the next number
abbrev pub added_task : TaskRow → List TaskRow → List TaskRow
added_task row rows = rows ++ (record row { number = next_task rows }) ∷ []
