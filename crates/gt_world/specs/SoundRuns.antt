-- What holds of each history of a run.
use Rattle.gt_machine.specs.MachineState.{MachineState}
use Rattle.gt_machine.specs.Run.{run_of}
use Rattle.gt_machine.specs.Sound.{IsSound}
use Rattle.gt_machine.specs.SoundRows.{HasOneTaskEach}
use Rattle.gt_setup.specs.Setup.{Setup}
use Rattle.gt_types.specs.declared.event.Event.{Event}
use Rattle.gt_world.specs.World.{Taken, World}
use Rattle.std.specs.List.{AllByRecursion}
use Rattle.std.specs.Prelude.{List, Some, ◌++◌, ◌≡◌}

-- each history on the way to this one leads to a sound state
abbrev pub IsSoundThroughout : Setup → List Event → Type 0
IsSoundThroughout setup history =
    (before rest : List Event) → history ≡ before ++ rest → (machine : MachineState) × (run_of setup before ≡ Some machine) × IsSound setup before machine

-- in each state on the way to this history each owner's submission identifier has made at most one task
abbrev pub HasOneTaskThroughout : Setup → List Event → Type 0
HasOneTaskThroughout setup history =
    (before rest : List Event) → history ≡ before ++ rest → (machine : MachineState) × (run_of setup before ≡ Some machine) × HasOneTaskEach machine.tasks

-- from the world on, and behind each of these steps
pub record HaveOneTaskEach (setup : Setup) (start : World) (steps : List Taken) : Type 0 where
  pub first : HasOneTaskThroughout setup start.ledger.history
  pub behind : AllByRecursion (λ taken. HasOneTaskThroughout setup taken.world.ledger.history) steps

-- from the world on, and behind each of these steps, each history leads through sound states
pub record AreSound (setup : Setup) (start : World) (steps : List Taken) : Type 0 where
  pub first : IsSoundThroughout setup start.ledger.history
  pub behind : AllByRecursion (λ taken. IsSoundThroughout setup taken.world.ledger.history) steps
