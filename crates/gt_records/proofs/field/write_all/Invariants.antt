use Rattle.std.proofs.Common.{◌≡◌, ◌++◌, true, drop}
use Rattle.std.specs.List.{flat_map, list_all}
use Rattle.gt_records.specs.Appending.{Keeps}
use Rattle.gt_records.proofs.field.write_all.Given as goal

-- what is written, and what is left to write
abbrev pub invariant-loop-value : goal.invariant-loop-value
invariant-loop-value g l = record {
  written : l.into.items ++ flat_map g.T.Field.text (drop l.value-index l.values) ≡ l.fn.into.items ++ flat_map g.T.Field.text l.values;
  fit : list_all g.T.Field.fits (drop l.value-index l.values) ≡ true;
  keeps : Keeps l.fn.into.items l.into.items;
}
