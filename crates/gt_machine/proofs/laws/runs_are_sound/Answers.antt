use Rattle.gt_machine.proofs.Soundness.{sound_state}
use Rattle.gt_machine.proofs.laws.runs_are_sound.Goals as goal

pub returns : goal.returns
returns c setup history m is = sound_state setup history m is
