use Rattle.std.proofs.Common.{◌≡◌, ◌++◌, Ok, drop, length}
use Rattle.toml.specs.View.{items_view}
use Rattle.gt_setup.specs.Grammar.{collections_from}
use Rattle.gt_values.specs.Results.{◌>>=◌}
use Rattle.gt_setup.proofs.rows.collections_from.Given as goal

-- the collections so far, and those of the rows that are left
abbrev pub invariant-loop-number : goal.invariant-loop-number
invariant-loop-number l =
    (collections_from 0 (items_view l.rows)
    ≡ (collections_from l.number (items_view (drop l.number l.rows)) >>= (λ rest. Ok (l.collections.items ++ rest))))
    × (length l.collections.items ≡ l.number)
