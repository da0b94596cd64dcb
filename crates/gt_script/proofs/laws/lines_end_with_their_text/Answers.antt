use Rattle.gt_script.proofs.ReadingLemmas.{ends_behind, ends_with_next}
use Rattle.gt_script.proofs.laws.lines_end_with_their_text.Goals as goal

pub returns-clause-none : goal.returns-clause-none
returns-clause-none c = ends_behind

pub returns-clause-last : goal.returns-clause-last
returns-clause-last c = ends_with_next
