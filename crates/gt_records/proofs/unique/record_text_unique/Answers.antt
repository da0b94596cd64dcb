use Rattle.gt_records.proofs.EventLaws.{event_unique}
use Rattle.gt_records.proofs.unique.record_text_unique.Goals as goal

pub returns : goal.returns
returns c = event_unique
