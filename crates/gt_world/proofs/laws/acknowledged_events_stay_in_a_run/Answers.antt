use Rattle.gt_world.proofs.StayingLemmas.{keeps_acknowledged}
use Rattle.gt_world.proofs.laws.acknowledged_events_stay_in_a_run.Goals as goal

pub returns : goal.returns
returns g c setup disk last start steps run keeps = keeps_acknowledged g.D.Disk.words setup c.acknowledged_events_stay.ensures disk last start steps run keeps
