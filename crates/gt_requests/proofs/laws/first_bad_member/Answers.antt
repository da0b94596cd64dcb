use Rattle.gt_requests.proofs.BadLemmas as bad
use Rattle.gt_requests.proofs.laws.first_bad_member.Goals as goal

pub returns : goal.returns
returns c = bad.first_bad_member
