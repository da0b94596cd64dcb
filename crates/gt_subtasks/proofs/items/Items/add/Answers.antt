use Rattle.std.proofs.Common.{arith, ap, length, ◌∙◌, ◌≡◌}
use Rattle.std.specs.Vec.Iter.{into_iter_items}
use Rattle.gt_subtasks.specs.declared.item.Item.{Item}
use Rattle.gt_subtasks.proofs.NumberLemmas.{numbered_step}
use Rattle.gt_subtasks.proofs.items.Items.add.Goals as goal

pub add_item-requires : goal.add_item-requires
add_item-requires c =
    let given : into_iter_items c.into_iter-item-iterator.result ≡ c.args.growth = c.into_iter-item-iterator.ensures.into_iter_gives.0 ∙ c.into_vec-item-items.ensures in
    omega (arith, ap (length {A = Item}) given, ap (length {A = Item}) c.in-Some.ensures.steps.0, c.loop-item.invariant.spare, c.requires)

pub loop-item-preserved : goal.loop-item-preserved
loop-item-preserved c = record {
  can = tt;
  finite = tt;
  rows =
      numbered_step c.loop-item.self.rows c.add_item.new.self.rows c.in-Some.item (into_iter_items c.loop-item.item-iterator) (into_iter_items c.next.new.self)
      c.in-Some.ensures.steps.0 c.add_item.ensures.rows
      ∙ c.loop-item.invariant.rows;
  spare = omega (arith, ap (length {A = Item}) c.in-Some.ensures.steps.0, c.loop-item.invariant.spare, c.add_item.ensures.spare);
}
