use Rattle.gt_documents.proofs.LawLemmas.{first_bad}
use Rattle.gt_documents.proofs.laws.first_bad_item.Goals as goal

pub returns : goal.returns
returns g c = first_bad (g.R.ReadItem.reading c.args._reader.now)
