use Rattle.gt_values.proofs.FormLemmas.{stands_writes, writes_stands}
use Rattle.gt_values.proofs.laws.four_forms.Goals as goal

pub returns : goal.returns
returns c = λ text id. (stands_writes text id, writes_stands text id)
