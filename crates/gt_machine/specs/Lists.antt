-- Rows in an order, and pages of them.
use Rattle.std.specs.Prelude.{List, [], drop, fold, if◌then◌else◌, length, nat_lt, suc, take, zero, ℕ, ◌++◌, ◌+◌, ◌∷◌}
use Rattle.gt_types.specs.declared.reply.Page.{Page}

-- the list with the row before the first one of a greater key
abbrev pub inserted : {X : Type 0} → (X → ℕ) → X → List X → List X
inserted key row [] = row ∷ []
inserted key row (x ∷ xs) = if nat_lt (key row) (key x) then row ∷ x ∷ xs else x ∷ inserted key row xs

-- the rows by rising key, and rows of one key in their order
abbrev pub sorted_by : {X : Type 0} → (X → ℕ) → List X → List X
sorted_by key rows = fold (λ sorted row. inserted key row sorted) [] rows

-- the rows of the page
abbrev pub page_of : {X : Type 0} → ℕ → ℕ → List X → List X
page_of limit offset rows = take limit (drop offset rows)

-- what a list says of its page
abbrev pub page_line : {X : Type 0} → ℕ → ℕ → List X → Page
page_line limit offset rows = record { limit = limit; offset = offset; total = length rows }

-- so many pages of one limit, one after another from this offset on
abbrev pub joined_pages : {X : Type 0} → ℕ → ℕ → ℕ → List X → List X
joined_pages limit zero offset rows = []
joined_pages limit (suc pages) offset rows = page_of limit offset rows ++ joined_pages limit pages (offset + limit) rows
