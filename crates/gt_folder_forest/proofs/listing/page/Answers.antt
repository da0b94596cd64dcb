use Rattle.gt_folder_forest.proofs.PageLemmas.{few_step, page_of, row_start, row_step}
use Rattle.gt_folder_forest.proofs.listing.page.Goals as goal
use Rattle.std.proofs.Common.{ap, arith, length, option_copied, ◌<◌, ◌∙◌}
use Rattle.std.proofs.lemmas.Map.Iter.{rest_more}
use Rattle.std.specs.Map.Iter.{deref_pair}
use Rattle.std.specs.Map.{keys_of}

pub loop-name-init : goal.loop-name-init
loop-name-init g c = record {
  few = omega (arith, ap length c.new-entries.ensures.items);
  row = row_start (option_copied c.args.after) _ c.args.names.now.entries c.into_iter-name-iterator.result c.new-entries.result.items c.start_of.ensures
      (c.into_iter-name-iterator.ensures.into_iter_gives ∙ c.range-name-items.ensures.between tt) c.range-name-items.ensures.ordered c.new-entries.ensures.items;
}

pub loop-name-preserved : goal.loop-name-preserved
loop-name-preserved g c =
    let more : length c.loop-name.entries.items < c.args.limit = omega arith in
    record {
      few = few_step c.args.limit c.loop-name.entries.items c.add_entry.new.entries.items c.in-Some.name.now more c.in_ok-add_entry.ensures;
      row = row_step (option_copied c.args.after) c.loop-name.entries.items c.add_entry.new.entries.items c.in-Some.name.now c.in-Some.field-0-1.now c.loop-name.name-iterator c.next.new.self
          (rest_more deref_pair c.loop-name.name-iterator c.next.new.self c.next.result (c.in-Some.name, c.in-Some.field-0-1) c.in-Some.is c.next.ensures.steps)
          c.in_ok-add_entry.ensures c.loop-name.invariant.row;
    }

pub returns : goal.returns
returns g c = page_of (option_copied c.args.after) c.args.limit c.loop-name.entries.items (keys_of c.loop-name.name-iterator) c.loop-name.invariant.few c.loop-name.invariant.row
