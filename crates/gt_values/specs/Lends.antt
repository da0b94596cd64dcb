-- What a table is after a row of it was lent to be written.
use Rattle.std.specs.Borrow.{Fml, Lends, MutBor, RattleType}
use Rattle.std.specs.Prelude.{ℕ}
use Rattle.gt_values.specs.Rows.{Rows, with_row}
use Rattle.gt_values.specs.contracts.table.Table.{the_row}

-- once the borrow r ends, the row of this number is the last value written through r, and nothing else changed
abbrev pub LendsRow : (T : RattleType) → MutBor (Rows T.Denot) → ℕ → MutBor T.Denot → Fml
LendsRow T table number r = Lends (the_row T) T table r (with_row table.now number)
