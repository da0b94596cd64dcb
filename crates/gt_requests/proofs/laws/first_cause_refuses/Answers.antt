use Rattle.gt_requests.proofs.CauseLemmas as cause
use Rattle.gt_requests.proofs.laws.first_cause_refuses.Goals as goal

pub returns : goal.returns
returns c = cause.first_cause_refuses
