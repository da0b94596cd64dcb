use Rattle.gt_disk.proofs.Prose.{no_more, no_less}
use Rattle.gt_disk.proofs.laws.torn_writes.Goals as goal

pub returns-clause-no_more : goal.returns-clause-no_more
returns-clause-no_more c = no_more

pub returns-clause-no_less : goal.returns-clause-no_less
returns-clause-no_less c = no_less
