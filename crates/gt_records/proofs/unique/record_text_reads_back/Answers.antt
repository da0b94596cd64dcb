use Rattle.gt_records.proofs.EventLaws.{event_given}
use Rattle.gt_records.proofs.unique.record_text_reads_back.Goals as goal

pub returns : goal.returns
returns c = event_given
