use Rattle.gt_documents.proofs.LawLemmas.{last_member, others_change_nothing}
use Rattle.gt_documents.proofs.laws.last_member_counts.Goals as goal

pub returns-clause-last : goal.returns-clause-last
returns-clause-last c = last_member

pub returns-clause-others : goal.returns-clause-others
returns-clause-others c = others_change_nothing
