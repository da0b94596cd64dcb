-- What the index of tasks holds.
use Rattle.std.specs.HashMap.{HashMap, get, spare}
use Rattle.std.specs.Prelude.{Bool, List, length, ℕ, ◌+◌, ◌<◌, ◌^◌, ◌≡◌, ◌≤◌}
use Rattle.gt_tasks.specs.Tasks.{number_of}
use Rattle.gt_tasks.specs.declared.row.TaskRow.{TaskRow}

-- an owner and a submission identifier
abbrev pub Key : Type 0
Key = List ℕ × List ℕ

-- the map has the number of the first task of each owner and submission identifier, and there is room for so many more
pub record IsFiled {S : Type 0} (same : Key → Key → Bool) (rows : List TaskRow) (capacity : ℕ) (found : HashMap Key ℕ S) (room : ℕ) : Type 0 where
  pub numbers : (owner submission : List ℕ) → get same found (owner, submission) ≡ number_of owner submission rows
  pub reserved : room ≤ capacity
  pub free : room ≤ spare found
  pub few : length rows + room < 2 ^ 64
