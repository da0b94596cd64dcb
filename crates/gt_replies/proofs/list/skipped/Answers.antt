use Rattle.gt_replies.proofs.TableLemmas.{all_true}
use Rattle.gt_replies.proofs.list.skipped.Goals as goal

pub list-requires : goal.list-requires
list-requires c = all_true c.as_slice.result.now
