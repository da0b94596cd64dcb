-- A call of the desk, by the events by which it moves the machine's state: whatever is answered, and whatever its disk tells.
use Rattle.std.proofs.Common.{inl, inr, ⊎_elim}
use Rattle.std.specs.Prelude.{Err, IsSome, List, None, Ok, Option, Result, Some, [], ◌++◌, ◌∷◌, ◌≡◌, ◌⊎◌}
use Rattle.gt_desk.specs.History.{Ledger}
use Rattle.gt_desk.specs.declared.fault.DeskFault.{DeskFault}
use Rattle.gt_desk.specs.declared.fault.DeskFault.TheVariants.{JournalFault, OutOfMemory}
use Rattle.gt_machine.specs.Decision.{events_in, said}
use Rattle.gt_machine.specs.MachineState.{MachineState}
use Rattle.gt_machine.specs.Run.{run_from}
use Rattle.gt_machine.specs.declared.decision.Decision.{Decision}
use Rattle.gt_setup.specs.Setup.{Setup}
use Rattle.gt_types.specs.declared.event.Event.{Event}

-- of the event in doubt, where there is one, this is kept: the event, or nothing
abbrev pub IsKept : Option Event → List Event → Type 0
IsKept None kept = kept ≡ []
IsKept (Some event) kept = (kept ≡ []) ⊎ (kept ≡ event ∷ [])

-- the event was dropped, or is in doubt
abbrev pub MayCount : Event → Option Event → Type 0
MayCount event doubt = (doubt ≡ None) ⊎ (doubt ≡ Some event)

-- Recording what was decided, where nothing was in doubt: the answer is said and its event made; or the journal failed, and
-- the event is dropped or in doubt; or memory was wanted, and nothing was made.
abbrev pub Records : {A : Type 0} → Decision A → Result A DeskFault → (made : List Event) → (doubt : Option Event) → Type 0
Records decision (Ok answer) made doubt = (answer ≡ said decision) × (made ≡ events_in decision) × (doubt ≡ None)
Records decision (Err JournalFault) made doubt = (made ≡ []) × ((event : Event) × (events_in decision ≡ event ∷ []) × MayCount event doubt)
Records decision (Err OutOfMemory) made doubt = (made ≡ []) × (doubt ≡ None)

-- The doubt was settled, it was decided on the settled state, and that was recorded.
pub record Decides {A : Type 0} (setup : Setup) (decide : MachineState → Decision A) (old : Ledger) (result : Result A DeskFault) (moved : List Event) (new : Ledger) : Type 0 where
  pub kept : List Event
  pub settles : IsKept old.doubt kept
  pub settled : MachineState
  pub leads : run_from setup old.machine kept ≡ Some settled
  pub made : List Event
  pub moves : moved ≡ kept ++ made
  pub records : Records (decide settled) result made new.doubt

-- The journal failed in settling: all is as before.
pub record FailsToSettle {A : Type 0} (old : Ledger) (result : Result A DeskFault) (moved : List Event) (new : Ledger) : Type 0 where
  pub fault : result ≡ Err JournalFault
  pub in_doubt : IsSome old.doubt
  pub still : moved ≡ []
  pub doubt : new.doubt ≡ old.doubt

-- A call that is decided so on the settled state: these events moved it.
pub record DeskCall {A : Type 0} (setup : Setup) (decide : MachineState → Decision A) (old : Ledger) (result : Result A DeskFault) (moved : List Event) (new : Ledger) : Type 0 where
  pub runs : run_from setup old.machine moved ≡ Some new.machine
  pub comes : Decides setup decide old result moved new ⊎ FailsToSettle old result moved new

-- it is one from each history that leads to its state
pub of_history : {A : Type 0} (setup : Setup) (decide : MachineState → Decision A) (history : List Event) (old : Ledger) (result : Result A DeskFault) (moved : List Event) (new : Ledger)
    → DeskCall setup decide old result moved new → DeskCall setup decide (record old { history = history }) result moved (record new { history = history ++ moved })
of_history setup decide history old result moved new call = record {
  runs = call.runs;
  comes = ⊎_elim
      (λ d. inl (record { kept = d.kept; settles = d.settles; settled = d.settled; leads = d.leads; made = d.made; moves = d.moves; records = d.records }))
      (λ f. inr (record { fault = f.fault; in_doubt = f.in_doubt; still = f.still; doubt = f.doubt })) call.comes;
}
