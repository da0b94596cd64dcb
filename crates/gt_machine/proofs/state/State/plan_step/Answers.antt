use Rattle.std.proofs.Common.{◌+◌}
use Rattle.gt_machine.proofs.StepLemmas.{step_effect}
use Rattle.gt_machine.proofs.state.State.plan_step.Goals as goal

pub prepare-requires : goal.prepare-requires
prepare-requires c =
    let m = c.args.self.now.machine in
    let there = step_effect c.requires.step.0 m c.args.event c.requires.step.1 in
    (m.events + 1, c.args.event.moment, there.0)
