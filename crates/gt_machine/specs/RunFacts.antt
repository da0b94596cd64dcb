-- Facts on runs: they go on, have their fronts, and end with a step.
use Rattle.std.proofs.Common.{List, None, Option, Some, [], ap, refl, subst, sym, ◌++◌, ◌∙◌, ◌∷◌, ◌≡◌}
use Rattle.std.specs.Prelude.{option_and_then}
use Rattle.gt_machine.specs.MachineState.{MachineState, empty_state}
use Rattle.gt_machine.specs.Run.{IsReached, run_from}
use Rattle.gt_machine.specs.Step.{step_of}
use Rattle.gt_setup.specs.Setup.{Setup}
use Rattle.gt_types.specs.declared.event.Event.{Event}

-- a step is a run of one event
pub run_one : (setup : Setup) (m next : MachineState) (event : Event) → step_of setup m event ≡ Some next → run_from setup m (event ∷ []) ≡ Some next
run_one setup m next event step = ap (option_and_then (λ o. run_from setup o [])) step

-- a run, and a run from where it led
pub run_join : (setup : Setup) (m middle last : MachineState) (front back : List Event) → run_from setup m front ≡ Some middle
    → run_from setup middle back ≡ Some last → run_from setup m (front ++ back) ≡ Some last
run_join setup m middle last [] back is rest =
    let same : m ≡ middle = cc in
    subst (λ (n : MachineState). run_from setup n back ≡ Some last) (sym same) rest
run_join setup m middle last (e ∷ es) back is rest = after (step_of setup m e) is (λ n run. run_join setup n middle last es back run rest)
  where
    after : (o : Option MachineState) → option_and_then (λ n. run_from setup n es) o ≡ Some middle
        → ((n : MachineState) → run_from setup n es ≡ Some middle → run_from setup n (es ++ back) ≡ Some last)
        → option_and_then (λ n. run_from setup n (es ++ back)) o ≡ Some last
    after None is go = absurd (cc)
    after (Some n) is go = go n is

-- a run and one event more
pub run_more : (setup : Setup) (m last next : MachineState) (events : List Event) (event : Event) → run_from setup m events ≡ Some last
    → step_of setup last event ≡ Some next → run_from setup m (events ++ event ∷ []) ≡ Some next
run_more setup m last next events event is step =
    run_join setup m last next events (event ∷ []) is (run_one setup last next event step)

-- where a run's front led, and what its rest does from there
abbrev pub Middle : Setup → MachineState → MachineState → List Event → List Event → Type 0
Middle setup m last front back = (middle : MachineState) × (run_from setup m front ≡ Some middle) × (run_from setup middle back ≡ Some last)

pub run_split : (setup : Setup) (m last : MachineState) (front back : List Event) → run_from setup m (front ++ back) ≡ Some last → Middle setup m last front back
run_split setup m last [] back is = (m, refl, is)
run_split setup m last (e ∷ es) back is = after (step_of setup m e) is (λ n run. run_split setup n last es back run)
  where
    after : (o : Option MachineState) → option_and_then (λ n. run_from setup n (es ++ back)) o ≡ Some last
        → ((n : MachineState) → run_from setup n (es ++ back) ≡ Some last → Middle setup n last es back)
        → (middle : MachineState) × (option_and_then (λ n. run_from setup n es) o ≡ Some middle) × (run_from setup middle back ≡ Some last)
    after None is go = absurd (cc)
    after (Some n) is go = go n is

-- the rest of a run leads on from where its front led
pub run_rest : (setup : Setup) (m middle last : MachineState) (front back : List Event) → run_from setup m front ≡ Some middle → run_from setup m (front ++ back) ≡ Some last
    → run_from setup middle back ≡ Some last
run_rest setup m middle last front back first all =
    let at = run_split setup m last front back all in
    let same : at.0 ≡ middle = one_state at.0 middle (sym at.1 ∙ first) in
    subst (λ (n : MachineState). run_from setup n back ≡ Some last) same at.2
  where
    one_state : (m n : MachineState) → Some m ≡ Some n → m ≡ n
    one_state m n same = cc

-- a run of one event is a step
pub one_step : (setup : Setup) (m next : MachineState) (event : Event) → run_from setup m (event ∷ []) ≡ Some next → step_of setup m event ≡ Some next
one_step setup m next event is = by_cases (step_of setup m event) is
  where
    by_cases : (o : Option MachineState) → option_and_then (λ n. run_from setup n []) o ≡ Some next → o ≡ Some next
    by_cases None is = absurd (cc)
    by_cases (Some n) is = is

-- a step from a reached state leads to a reached state
pub reached_more : (setup : Setup) (m next : MachineState) (event : Event) → IsReached setup m → step_of setup m event ≡ Some next → IsReached setup next
reached_more setup m next event reached step =
    (reached.0 ++ event ∷ [], run_more setup (empty_state setup.namespace) m next reached.0 event reached.1 step)
