use Rattle.std.proofs.Common.{◌∙◌, ap, map}
use Rattle.gt_machine.proofs.ListLemmas.{page_map}
use Rattle.gt_machine.proofs.lists.page_of.Goals as goal

-- the page of the references is the page of the rows
pub returns : goal.returns
returns g c = ap (map (λ row. row.now)) c.part.ensures ∙ page_map (λ row. row.now) c.args.limit c.args.offset c.args.rows.now
