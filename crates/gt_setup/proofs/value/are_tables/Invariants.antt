use Rattle.std.proofs.Common.{◌≡◌, drop}
use Rattle.toml.specs.View.{items_view}
use Rattle.gt_setup.specs.Value.{are_tables}
use Rattle.gt_setup.proofs.value.are_tables.Given as goal

abbrev pub invariant-loop-at : goal.invariant-loop-at
invariant-loop-at l = are_tables (items_view l.items) ≡ are_tables (items_view (drop l.at l.items))
