use Rattle.gt_setup.proofs.OwnerLemmas.{owner_unknown}
use Rattle.gt_setup.proofs.owners.check_owners.Goals as goal

pub returns-in-Some-clause-fault : goal.returns-in-Some-clause-fault
returns-in-Some-clause-fault c = owner_unknown c.args.setup.now c.args.collections.now c.in-Some.id c.requires c.in-Some.ensures
