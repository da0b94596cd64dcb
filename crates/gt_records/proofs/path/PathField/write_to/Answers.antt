use Rattle.gt_records.proofs.LimitLaws.{all_true}
use Rattle.gt_records.proofs.path.PathField.write_to.Goals as goal

pub write_all-requires : goal.write_all-requires
write_all-requires c = all_true c.as_slice.result.now
