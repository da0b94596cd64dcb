use Rattle.gt_world.proofs.HistoryLemmas.{RunLaws, one_task_each, run_is_sound}
use Rattle.gt_world.proofs.laws.histories_of_a_run_are_sound.Goals as goal

pub returns-clause-sound : goal.returns-clause-sound
returns-clause-sound c setup honest start steps runs run =
    let laws : RunLaws setup = record {
      sound = c.runs_are_sound.ensures setup;
      go_on = c.runs_go_on.ensures.run setup;
      fronts = c.runs_have_fronts.ensures.front setup;
    } in
    run_is_sound setup laws honest start steps run runs

pub returns-clause-one_task : goal.returns-clause-one_task
returns-clause-one_task c setup start steps are = one_task_each setup start steps are
