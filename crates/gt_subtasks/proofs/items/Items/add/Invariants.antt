use Rattle.std.proofs.Common.{◌≡◌, ◌+◌, ◌++◌, length}
use Rattle.std.specs.Vec.Iter.{into_iter_items}
use Rattle.gt_subtasks.specs.Growth.{numbered}
use Rattle.gt_subtasks.proofs.items.Items.add.Given as goal

abbrev pub invariant-loop-item : goal.invariant-loop-item
invariant-loop-item l = record {
  can : (goal.iterator-loop-item).can_next l.item-iterator;
  finite : (goal.iterator-loop-item).is_finite l.item-iterator;
  rows : l.self.rows ++ numbered (length l.self.rows + 1) (into_iter_items l.item-iterator) ≡ l.initial.self.rows ++ numbered (length l.initial.self.rows + 1) (into_iter_items l.initial.item-iterator);
  spare : l.self.spare + length (into_iter_items l.initial.item-iterator) ≡ l.initial.self.spare + length (into_iter_items l.item-iterator);
}
