use Rattle.gt_requests.specs.Transfer.{ends_of}
use Rattle.gt_requests.proofs.transfer.read_ends.Goals as goal

pub returns-clause-value : goal.returns-clause-value
unfolding ends_of
returns-clause-value c = rw (← c.in_ok-submission.ensures.value, ← c.in_ok-source.ensures.value, ← c.in_ok-destination.ensures.value)
