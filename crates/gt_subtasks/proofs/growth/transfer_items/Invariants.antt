use Rattle.std.proofs.Common.{◌≡◌, ◌+◌, ◌++◌, drop, map}
use Rattle.gt_subtasks.specs.Growth.{entry_items, transfer_of}
use Rattle.gt_subtasks.proofs.growth.transfer_items.Given as goal

abbrev pub invariant-loop-entry : goal.invariant-loop-entry
invariant-loop-entry l = record {
  placed : l.place ≡ l.entry-index;
  made : l.items.items ++ entry_items l.task (l.first + l.place) l.place (map transfer_of (drop l.entry-index l.entries)) ≡ entry_items l.task l.first 0 (map transfer_of l.entries);
}
