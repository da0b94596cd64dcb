-- The state that a list of events leads to.
use Rattle.std.specs.Prelude.{List, Option, Some, [], option_and_then, ◌∷◌, ◌≡◌}
use Rattle.gt_machine.specs.MachineState.{MachineState, empty_state}
use Rattle.gt_machine.specs.Step.{step_of}
use Rattle.gt_setup.specs.Setup.{Setup}
use Rattle.gt_types.specs.declared.event.Event.{Event}

-- from a state on
abbrev pub run_from : Setup → MachineState → List Event → Option MachineState
run_from setup m [] = Some m
run_from setup m (event ∷ events) = option_and_then (λ next. run_from setup next events) (step_of setup m event)

-- from the empty state; none where a step is none
abbrev pub run_of : Setup → List Event → Option MachineState
run_of setup history = run_from setup (empty_state setup.namespace) history

-- some list of events leads to the state under this setup
abbrev pub IsReached : Setup → MachineState → Type 0
IsReached setup m = (history : List Event) × (run_of setup history ≡ Some m)
