use Rattle.std.proofs.Common.{subst, ⊎_elim, ◌++◌, Some, ◌≡◌}
use Rattle.gt_machine.specs.MachineState.{empty_state}
use Rattle.gt_machine.specs.Run.{run_from, run_of}
use Rattle.gt_machine.specs.RunFacts.{run_rest}
use Rattle.gt_desk.proofs.SubmissionLemmas.{answered_task}
use Rattle.gt_desk.proofs.laws.submission_sent_again_makes_one_task.Goals as goal

pub returns : goal.returns
returns c setup owner submission spec now old new moved is_delete is_new identifier task runs call =
    ⊎_elim
    (λ decides.
    let history = old.history ++ moved in
    let run : run_of setup history ≡ Some new.machine = c.runs_go_on.ensures.run setup (empty_state setup.namespace) old.machine new.machine old.history moved runs call.runs in
    let rest : run_from setup decides.settled decides.made ≡ Some new.machine =
    run_rest setup old.machine decides.settled new.machine decides.kept decides.made decides.leads (subst (λ es. run_from setup old.machine es ≡ Some new.machine) decides.moves call.runs) in
    answered_task setup owner submission spec now decides.settled new.machine decides.made rest
    (c.runs_are_sound.ensures setup history new.machine run).one_task_per_submission
    is_delete is_new identifier task decides.records.0 decides.records.1)
    (λ fails. absurd (cc (fails.fault))) call.comes
