use Rattle.gt_subtasks.proofs.Classes.{sum_of_classes}
use Rattle.gt_subtasks.proofs.laws.classes_sum_to_total.Goals as goal

pub returns : goal.returns
returns c task items = sum_of_classes task items
