use Rattle.gt_select.proofs.CharLemmas.{position-split_once}
use Rattle.gt_select.proofs.class.split_at_end.Goals as goal

pub returns : goal.returns
returns c = position-split_once c.args.text.now c.split_once.result c.utf8.text c.split_once.ensures.cases
