use Rattle.std.proofs.Common.{Bor, rules, ◌∙◌, ap, map}
use Rattle.gt_machine.specs.Document.{end_of}
use Rattle.gt_machine.proofs.SortLemmas.{sort_by_key_is, sorted_by_map}
use Rattle.gt_machine.proofs.task_answers.by_end.Goals as goal
use Rattle.gt_subtasks.specs.declared.item.Item.{Item}

-- the sort is the insertion sort of the references, and so of the items
pub returns : goal.returns
returns c =
    let sorted = sort_by_key_is (λ (item : Bor Item). end_of item.now) c.args.items.items _ c.in_ok-sort_by_key.ensures.sorted c.sort_by_key.ensures.stable (λ a r q k. search rules) in
    ap (map (λ item. item.now)) sorted ∙ sorted_by_map (λ (item : Bor Item). item.now) end_of c.args.items.items
