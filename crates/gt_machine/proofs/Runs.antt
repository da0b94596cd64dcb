-- What each step keeps holds after a run.
use Rattle.std.proofs.Common.{◌≡◌, ◌+◌, List, [], ◌∷◌, ◌++◌, Bool, true, false, Option, Some, None, refl, sym, ap, subst, append_assoc, rules, if◌then◌else◌}
use Rattle.std.specs.Prelude.{option_and_then}
use Rattle.std.specs.Option.{option_map}
use Rattle.gt_types.specs.declared.event.Event.{Event}
use Rattle.gt_setup.specs.Setup.{Setup}
use Rattle.gt_machine.specs.MachineState.{MachineState, empty_state}
use Rattle.gt_machine.specs.Run.{IsReached, run_from}
use Rattle.gt_machine.specs.Step.{counted_state, effect_of, may_come, step_of}

-- a fact on a history and its state that each step keeps
abbrev pub IsKept : Setup → (List Event → MachineState → Type 0) → Type 0
IsKept setup P =
    (history : List Event) (m next : MachineState) (event : Event) → P history m → step_of setup m event ≡ Some next → P (history ++ event ∷ []) next

append-nil-sym : {X : Type 0} (xs : List X) → xs ≡ xs ++ []
append-nil-sym xs = grind rules

pub after_run : (setup : Setup) (P : List Event → MachineState → Type 0) → IsKept setup P
    → (events history : List Event) (m last : MachineState) → P history m → run_from setup m events ≡ Some last → P (history ++ events) last
after_run setup P keeps [] history m last holds is =
    let same : m ≡ last = cc in
    subst (λ (h : List Event). P h last) (append-nil-sym history) (subst (P history) same holds)
after_run setup P keeps (event ∷ events) history m last holds is =
    after (step_of setup m event) refl is (λ next kept rest. after_run setup P keeps events (history ++ event ∷ []) next last kept rest)
  where
    after : (next : Option MachineState) → step_of setup m event ≡ next → option_and_then (λ n. run_from setup n events) next ≡ Some last
        → ((n : MachineState) → P (history ++ event ∷ []) n → run_from setup n events ≡ Some last → P ((history ++ event ∷ []) ++ events) last)
        → P (history ++ event ∷ events) last
    after None e is go = absurd (cc)
    after (Some next) e is go = subst (λ (h : List Event). P h last) (append_assoc history (event ∷ []) events) (go next (keeps history m next event holds e) is)

-- a step is the effect of an event that may come, counted
pub record StepParts (setup : Setup) (m next : MachineState) (event : Event) : Type 0 where
  pub comes : may_come setup m event ≡ true
  pub changed : MachineState
  pub effect : effect_of (m.events + 1) event.moment event.what m ≡ Some changed
  pub result : next ≡ counted_state (m.events + 1) event.moment changed

pub step_is : (setup : Setup) (m next : MachineState) (event : Event) → step_of setup m event ≡ Some next → StepParts setup m next event
step_is setup m next event is = by_cases (may_come setup m event) (effect_of (m.events + 1) event.moment event.what m) refl refl is
  where
    by_cases : (comes : Bool) (o : Option MachineState) → may_come setup m event ≡ comes
        → effect_of (m.events + 1) event.moment event.what m ≡ o
        → (if comes then option_map (counted_state (m.events + 1) event.moment) o else None) ≡ Some next → StepParts setup m next event
    by_cases false o comes effect is = absurd (cc)
    by_cases true None comes effect is = absurd (cc)
    by_cases true (Some changed) comes effect is = record { comes = comes; changed = changed; effect = effect; result = cc }

-- what holds at the start and is kept by each step holds after a run from the start
pub of_run : (setup : Setup) (P : List Event → MachineState → Type 0) → IsKept setup P → P [] (empty_state setup.namespace)
    → (history : List Event) (m : MachineState) → run_from setup (empty_state setup.namespace) history ≡ Some m → P history m
of_run setup P keeps start history m is = after_run setup P keeps history [] (empty_state setup.namespace) m start is
