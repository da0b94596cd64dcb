-- Each history of a run leads through sound states.
use Rattle.gt_desk.specs.History.{Ledger}
use Rattle.gt_desk.specs.Opening.{FailsToReopen, opening_events}
use Rattle.gt_desk.specs.declared.fault.OpenFault.{OpenFault}
use Rattle.gt_desk.specs.declared.fault.OpenFault.TheVariants.{Damaged, JournalFault, OutOfMemory}
use Rattle.gt_machine.specs.MachineState.{MachineState, empty_state}
use Rattle.gt_machine.specs.Run.{run_from, run_of}
use Rattle.gt_machine.specs.Sound.{IsSound}
use Rattle.gt_requests.specs.declared.incoming.Incoming.{Incoming}
use Rattle.gt_service.specs.Service.{Response}
use Rattle.gt_setup.specs.Setup.{Setup}
use Rattle.gt_types.specs.declared.event.Event.{Event}
use Rattle.std.proofs.Common.{Bool, List, None, Option, Some, [], subst, sym, ⊎_elim, ◌++◌, ◌∷◌, ◌≡◌}
use Rattle.std.specs.List.{AllByRecursion}
use Rattle.gt_world.specs.RunFacts.{of_served}
use Rattle.gt_world.specs.SoundRuns.{AreSound, HasOneTaskThroughout, HaveOneTaskEach, IsSoundThroughout}
use Rattle.gt_world.specs.World.{IsServed, NoMemory, NotOpened, Quiet, Reopen, Reopened, Replied, Request, SetMoment, Step, StepAnswer, Taken, World, WorldRun, WorldStep}

-- what the machine says of runs
pub record RunLaws (setup : Setup) : Type 0 where
  pub sound : (history : List Event) (m : MachineState) → run_of setup history ≡ Some m → IsSound setup history m
  pub go_on : (m middle last : MachineState) (front back : List Event) → run_from setup m front ≡ Some middle → run_from setup middle back ≡ Some last → run_from setup m (front ++ back) ≡ Some last
  pub fronts : (m last : MachineState) (front back : List Event) → run_from setup m (front ++ back) ≡ Some last → (middle : MachineState) × (run_from setup m front ≡ Some middle) × (run_from setup middle back ≡ Some last)

module _ (setup : Setup) (laws : RunLaws setup) where
  -- each history on the way is sound
  pub sound_throughout : (history : List Event) (machine : MachineState) → run_of setup history ≡ Some machine → IsSoundThroughout setup history
  sound_throughout history machine run before rest whole =
      let all : run_of setup (before ++ rest) ≡ Some machine = subst (λ (h : List Event). run_of setup h ≡ Some machine) whole run in
      let (n, front, behind) = laws.fronts (empty_state setup.namespace) machine before rest all in
      (n, front, laws.sound before n front)

  -- the world's history leads to its state
  abbrev pub Runs : World → Type 0
  Runs world = run_of setup world.ledger.history ≡ Some world.ledger.machine

  longer : (old : List Event) (m last : MachineState) (new moved : List Event) → run_of setup old ≡ Some m → run_from setup m moved ≡ Some last → new ≡ old ++ moved → run_of setup new ≡ Some last
  longer old m last new moved runs more is =
      subst (λ (h : List Event). run_of setup h ≡ Some last) (sym is) (laws.go_on (empty_state setup.namespace) m last old moved runs more)

  runs_closed : (honest : Bool) (old : Ledger) (fault : OpenFault) (new : Ledger) → FailsToReopen setup honest old fault new → run_of setup old.history ≡ Some old.machine → run_of setup new.history ≡ Some new.machine
  runs_closed honest old JournalFault new fails runs =
      ⊎_elim (λ same. subst (λ (l : Ledger). run_of setup l.history ≡ Some l.machine) (sym same) runs)
      (λ behind.
      ⊎_elim (λ is. subst (λ (l : Ledger). run_of setup l.history ≡ Some l.machine) (sym is) behind.2.found_runs)
      (λ is. subst (λ (l : Ledger). run_of setup l.history ≡ Some l.machine) (sym is) behind.2.found_runs) behind.2.new_is) fails
  runs_closed honest old (Damaged number) new fails runs = subst (λ (l : Ledger). run_of setup l.history ≡ Some l.machine) (sym fails.1) runs
  runs_closed honest old OutOfMemory new fails runs = subst (λ (l : Ledger). run_of setup l.history ≡ Some l.machine) (sym fails) runs

  served_runs : (incoming : Incoming) (old : World) (response : Option Response) (new : World) → Runs old → IsServed setup incoming old response new → Runs new
  served_runs incoming old response new before =
      of_served (Runs new) setup incoming old response new (λ same. subst Runs (sym same) before)
      (λ identity command answer asks. longer old.ledger.history old.ledger.machine new.ledger.machine new.ledger.history asks.moved before asks.call.runs asks.history)

  module _ (honest : Bool) where
    step_runs : (old new : World) (step : Step) (answer : StepAnswer) → WorldStep setup honest old step answer new → Runs old → Runs new
    step_runs old new (Request incoming) (Replied response) is before = served_runs incoming old (Some response) new before is
    step_runs old new (Request incoming) NoMemory is before = served_runs incoming old None new before is
    step_runs old new (SetMoment moment) Quiet is before = subst Runs (sym is) before
    step_runs old new Reopen Reopened is before = longer is.found.history is.found.machine new.ledger.machine new.ledger.history (opening_events is.found.machine) is.opens.found_runs is.opens.moves is.history
    step_runs old new Reopen (NotOpened fault) is before = runs_closed honest old.ledger fault new.ledger is.fails before
    step_runs old new step answer is before = absurd is

    -- behind each step the history is sound throughout
    pub sound_steps : (start : World) (steps : List Taken) → WorldRun setup honest start steps → Runs start → AllByRecursion (λ taken. IsSoundThroughout setup taken.world.ledger.history) steps
    sound_steps start [] run runs = tt
    sound_steps start (taken ∷ rest) run runs =
        let leads = step_runs start taken.world taken.step taken.answer run.0 runs in
        (sound_throughout taken.world.ledger.history taken.world.ledger.machine leads, sound_steps taken.world rest run.1 leads)

    -- and each history of a run
    pub run_is_sound : (start : World) (steps : List Taken) → WorldRun setup honest start steps → Runs start → AreSound setup start steps
    run_is_sound start steps run runs = record { first = sound_throughout start.ledger.history start.ledger.machine runs; behind = sound_steps start steps run runs }

module _ (setup : Setup) where
  one_throughout : (history : List Event) → IsSoundThroughout setup history → HasOneTaskThroughout setup history
  one_throughout history sound before rest whole =
      let (machine, runs, is) = sound before rest whole in
      (machine, runs, is.one_task_per_submission)

  one_behind : (steps : List Taken) → AllByRecursion (λ taken. IsSoundThroughout setup taken.world.ledger.history) steps
      → AllByRecursion (λ taken. HasOneTaskThroughout setup taken.world.ledger.history) steps
  one_behind [] all = tt
  one_behind (taken ∷ rest) all = (one_throughout taken.world.ledger.history all.0, one_behind rest all.1)

  -- sound states have one task a submission
  pub one_task_each : (start : World) (steps : List Taken) → AreSound setup start steps → HaveOneTaskEach setup start steps
  one_task_each start steps are = record { first = one_throughout start.ledger.history are.first; behind = one_behind steps are.behind }
