use Rattle.std.proofs.Common.{ap, sym, true, ◌∙◌}
use Rattle.std.specs.Cmp.{unsigned_ties}
use Rattle.gt_index.specs.Index.{places_where}
use Rattle.gt_subtasks.specs.Item.{is_of_task}
use Rattle.gt_subtasks.specs.declared.item.Item.{Item}
use Rattle.gt_subtasks.proofs.IndexLemmas.{places_agree}
use Rattle.gt_subtasks.proofs.items.Items.places_of.Goals as goal

pub returns : goal.returns
returns c =
    c.run.ensures (λ (item : Item). true) (rw c.as_slice.ensures c.self.invariant.index)
    ∙ places_agree 0 _ (is_of_task c.args.task) c.as_slice.result.now (λ item. sym (unsigned_ties item.task c.args.task))
    ∙ ap (places_where (is_of_task c.args.task)) (c.as_slice.ensures ∙ ap (λ v. v.rows) c.self.view_is)
