use Rattle.gt_subtasks.specs.Growth.{first_acts}
use Rattle.gt_subtasks.proofs.NumberLemmas.{numbered-entry_items}
use Rattle.gt_subtasks.proofs.laws.first_items_keep_their_numbers.Goals as goal

pub returns : goal.returns
returns c task number spec = numbered-entry_items task number 0 (first_acts spec)
