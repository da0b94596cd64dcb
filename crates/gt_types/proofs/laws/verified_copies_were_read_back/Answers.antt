use Rattle.gt_types.proofs.OutcomeLemmas.{verified_copies}
use Rattle.gt_types.proofs.laws.verified_copies_were_read_back.Goals as goal

pub returns : goal.returns
returns c = verified_copies
