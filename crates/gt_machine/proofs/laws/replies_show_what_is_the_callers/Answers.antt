use Rattle.gt_machine.proofs.OwnLemmas.{answer_own}
use Rattle.gt_machine.proofs.Soundness.{sound_state}
use Rattle.gt_machine.proofs.laws.replies_show_what_is_the_callers.Goals as goal

pub returns : goal.returns
returns c setup m identity command now reached = answer_own setup reached.0 m identity command now (sound_state setup reached.0 m reached.1)
