use Rattle.gt_documents.proofs.LawLemmas.{first_pair}
use Rattle.gt_documents.proofs.laws.first_pair_counts.Goals as goal

pub returns : goal.returns
returns c = first_pair
