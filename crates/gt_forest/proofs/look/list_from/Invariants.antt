use Rattle.gt_forest.proofs.look.list_from.Given as goal
use Rattle.gt_forest.specs.Rows.{later_entries, listed}
use Rattle.std.proofs.Common.{length, map, option_copied, ◌++◌, ◌≡◌, ◌≤◌}

abbrev pub invariant-loop-name : goal.invariant-loop-name
invariant-loop-name l = record {
  few : length l.entries.items ≤ l.limit;
  so_far : l.entries.items ++ map listed l.name-iterator ≡ map listed (later_entries (option_copied l.after) l.contents.entries);
}
