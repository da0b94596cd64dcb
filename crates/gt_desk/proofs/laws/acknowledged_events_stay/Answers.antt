use Rattle.gt_desk.proofs.CallLemmas.{begins_same, keeps_calls}
use Rattle.gt_desk.proofs.laws.acknowledged_events_stay.Goals as goal

pub returns : goal.returns
returns g c setup disk last ledger calls made = keeps_calls g.D.Disk.words setup ledger.history calls disk last ledger (begins_same ledger.history) made
