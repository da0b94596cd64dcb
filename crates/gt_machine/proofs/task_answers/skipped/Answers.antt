use Rattle.std.proofs.Common.{Bor, rules, ◌∙◌, ap, map}
use Rattle.std.proofs.lemmas.List.Elements.{filter_from_retain}
use Rattle.gt_machine.specs.Document.{is_skipped}
use Rattle.gt_machine.proofs.ListLemmas.{filter_map_is}
use Rattle.gt_machine.proofs.task_answers.skipped.Goals as goal
use Rattle.gt_subtasks.specs.declared.item.Item.{Item}

-- what stays is what passes the test, and so are the items
pub returns : goal.returns
returns c =
    let kept = filter_from_retain _ (λ (item : Bor Item). is_skipped item.now) (λ p x b q called. search rules) _ c.args.items.items _ c.retain.ensures.filtered in
    ap (map (λ item. item.now)) kept ∙ filter_map_is (λ (item : Bor Item). item.now) is_skipped c.args.items.items
