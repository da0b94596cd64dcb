-- Moments don't go back.
use Rattle.std.proofs.Common.{◌≡◌, ◌≤◌, List, [], ◌∷◌, ◌++◌, true, All, Some, ap, arith, rules}
use Rattle.std.specs.Prelude.{nat_le}
use Rattle.std.proofs.lemmas.List.Elements.{All-append}
use Rattle.gt_types.specs.declared.event.Event.{Event}
use Rattle.gt_setup.specs.Setup.{Setup}
use Rattle.gt_machine.specs.MachineState.{MachineState}
use Rattle.gt_machine.specs.Step.{step_of}
use Rattle.gt_machine.proofs.Effects.{first_holds}
use Rattle.gt_machine.proofs.Runs.{step_is}

-- the greatest moment after a step is that of its event
pub greatest-step : (setup : Setup) (m next : MachineState) (event : Event) → step_of setup m event ≡ Some next → next.greatest ≡ event.moment
greatest-step setup m next event is = ap (λ (n : MachineState). n.greatest) (step_is setup m next event is).result

-- it isn't below the one before
pub greatest-rises : (setup : Setup) (m next : MachineState) (event : Event) → step_of setup m event ≡ Some next → m.greatest ≤ event.moment
greatest-rises setup m next event is =
    let test : nat_le m.greatest event.moment ≡ true = first_holds _ _ (first_holds _ _ (step_is setup m next event is).comes) in grind (arith, rules, test)

abbrev pub AllBefore : List Event → MachineState → Type 0
AllBefore history m = All (λ (event : Event). event.moment ≤ m.greatest) history

pub one_later : (setup : Setup) (history : List Event) (m next : MachineState) (event : Event) → AllBefore history m → step_of setup m event ≡ Some next
    → AllBefore (history ++ event ∷ []) next
one_later setup history m next event all is =
    let same : next.greatest ≡ event.moment = greatest-step setup m next event is in
    let rise : m.greatest ≤ event.moment = greatest-rises setup m next event is in
    rw same
    (All-append (λ (e : Event). e.moment ≤ event.moment) history (event ∷ []) (λ k d below. grind (arith, rise, all k d below)) (grind (arith, rules)))
