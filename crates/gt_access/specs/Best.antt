-- Rows of access rules by one number each: the longest path first, and of those the greatest permission.
use Rattle.std.specs.Prelude.{Bool, List, [], if◌then◌else◌, length, max, ℕ, ◌*◌, ◌+◌, ◌∷◌}
use Rattle.gt_access.specs.declared.right.Best.{Best}
use Rattle.gt_access.specs.declared.row.AccessRow.{AccessRow}
use Rattle.gt_access.specs.declared.row.Right.{Right}
use Rattle.gt_access.specs.declared.row.Right.TheVariants.{Nothing, Read, Write}

-- rights in rising order
abbrev pub rank : Right → ℕ
rank Nothing = 0
rank Read = 1
rank Write = 2

-- the number of what was met
abbrev pub score : Best → ℕ
score best = 3 * best.depth + rank best.right

-- what a row permits, as a rank
abbrev pub permission_of : AccessRow → ℕ
permission_of row = if row.spec.write then 2 else 1

-- the number of a row
abbrev pub score_of : AccessRow → ℕ
score_of row = 3 * length row.spec.path + permission_of row

-- the greatest rank of the rows that pass, or 0
abbrev pub top : (AccessRow → Bool) → List AccessRow → ℕ
top test [] = 0
top test (row ∷ rows) = max (if test row then permission_of row else 0) (top test rows)
