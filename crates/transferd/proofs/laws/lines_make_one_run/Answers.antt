use Rattle.transferd.proofs.RunLemmas.{all_steps}
use Rattle.transferd.proofs.laws.lines_make_one_run.Goals as goal

pub returns : goal.returns
returns c = all_steps
