use Rattle.std.proofs.Common.{IfOk, map, rules, slice_get, subst, ◌≡◌}
use Rattle.std.specs.List.{filter_map}
use Rattle.gt_subtasks.proofs.PlaceLemmas.{rows_where}
use Rattle.gt_subtasks.specs.Item.{is_of_task, items_of}
use Rattle.gt_subtasks.proofs.items.Items.of_task.Goals as goal

-- the rows at the places of the task's items are those of the task
pub returns : goal.returns
returns c =
    let rows = rows_where (is_of_task c.args.task) c.args.self.now.rows in
    let all : filter_map (slice_get c.as_slice.result.now) c.places_of.result.now ≡ items_of c.args.task c.args.self.now.rows = search (rules, rows, c.as_slice.ensures, c.places_of.ensures) in
    subst (λ t. IfOk c.rows_at.result (λ items. map (λ item. item.now) items.items ≡ t)) all c.rows_at.ensures
