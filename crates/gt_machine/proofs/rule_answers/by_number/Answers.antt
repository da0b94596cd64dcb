use Rattle.std.proofs.Common.{Bor, rules, ◌∙◌, ap, map}
use Rattle.gt_access.specs.declared.row.AccessRow.{AccessRow}
use Rattle.gt_machine.proofs.SortLemmas.{sort_by_key_is, sorted_by_map}
use Rattle.gt_machine.proofs.rule_answers.by_number.Goals as goal

-- the sort is the insertion sort of the references, and so of the rows
pub returns : goal.returns
returns c =
    let sorted = sort_by_key_is (λ (row : Bor AccessRow). row.now.number) c.args.rows.items _ c.in_ok-sort_by_key.ensures.sorted c.sort_by_key.ensures.stable (λ a r q k. search rules) in
    ap (map (λ row. row.now)) sorted ∙ sorted_by_map (λ (row : Bor AccessRow). row.now) (λ (row : AccessRow). row.number) c.args.rows.items
