use Rattle.std.proofs.Common.{◌≡◌, drop, length, map, take, true}
use Rattle.std.specs.List.{list_all}
use Rattle.serde_json.specs.View.{view}
use Rattle.gt_replies.proofs.list.rows_value.Given as goal

-- what is written of the rows so far, and that the others can be printed
abbrev pub invariant-loop-row : goal.invariant-loop-row
invariant-loop-row g l = record {
  written : map view l.values.items ≡ map (g.T.Row.document l.setup) (take l.row-index l.rows);
  fit : list_all (g.T.Row.printable (length l.setup.collections)) (drop l.row-index l.rows) ≡ true;
}
