use Rattle.gt_service.proofs.MakesLemmas.{makes_one, reads_make_none, refusals_make_none}
use Rattle.gt_service.proofs.laws.requests_make_at_most_one_event.Goals as goal

pub returns-clause-one : goal.returns-clause-one
returns-clause-one g c = makes_one g.D.Disk.words

pub returns-clause-reads : goal.returns-clause-reads
returns-clause-reads g c = reads_make_none g.D.Disk.words

pub returns-clause-refusals : goal.returns-clause-refusals
returns-clause-refusals g c = refusals_make_none g.D.Disk.words
