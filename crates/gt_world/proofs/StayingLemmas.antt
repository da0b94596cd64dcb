-- No step of a run on an honest disk takes an event away from the history.
use Rattle.gt_desk.specs.Calls.{AreCalls, Call}
use Rattle.gt_desk.specs.History.{Keeps, Ledger}
use Rattle.gt_desk.specs.Opening.{FailsToReopen, opening_events}
use Rattle.gt_desk.specs.declared.fault.OpenFault.{OpenFault}
use Rattle.gt_desk.specs.declared.fault.OpenFault.TheVariants.{Damaged, JournalFault, OutOfMemory}
use Rattle.gt_disk.specs.Disk.{DiskWords, LeavesOnly}
use Rattle.gt_requests.specs.declared.incoming.Incoming.{Incoming}
use Rattle.gt_service.specs.Service.{Response}
use Rattle.gt_setup.specs.Setup.{Setup}
use Rattle.gt_types.specs.declared.event.Event.{Event}
use Rattle.std.proofs.Common.{List, None, Option, Some, [], ap, append-nil, append_assoc, refl, subst, sym, true, ⊎_elim, ◌++◌, ◌∙◌, ◌∷◌, ◌≡◌}
use Rattle.gt_world.specs.Crashes.{CrashesKeep, CrashesUpTo, KeepsAcknowledged}
use Rattle.gt_world.specs.RunFacts.{of_served}
use Rattle.gt_world.specs.World.{IsServed, NoMemory, NotOpened, Quiet, Reopen, Reopened, Replied, Request, SetMoment, Step, StepAnswer, Taken, World, WorldRun, WorldStep, world_after}

-- the events that a step put behind the history
abbrev Grows : List Event → List Event → Type 0
Grows old new = (moved : List Event) × (new ≡ old ++ moved)

still : (old new : Ledger) → new ≡ old → Grows old.history new.history
still old new same = ([], ap (λ (l : Ledger). l.history) same ∙ sym (append-nil old.history))

grows_closed : (setup : Setup) (old : Ledger) (fault : OpenFault) (new : Ledger) → FailsToReopen setup true old fault new → Grows old.history new.history
grows_closed setup old JournalFault new fails =
    ⊎_elim (λ same. still old new same)
    (λ (found, finds, behind).
    let f = finds refl in
    let same : new.history ≡ found.history = ⊎_elim (λ is. ap (λ (l : Ledger). l.history) is) (λ is. ap (λ (l : Ledger). l.history) is) behind.new_is in
    (f.kept, same ∙ f.history)) fails
grows_closed setup old (Damaged number) new fails = still old new fails.1
grows_closed setup old OutOfMemory new fails = still old new fails

grows_served : (setup : Setup) (incoming : Incoming) (old : World) (response : Option Response) (new : World) → IsServed setup incoming old response new → Grows old.ledger.history new.ledger.history
grows_served setup incoming old response new =
    of_served (Grows old.ledger.history new.ledger.history) setup incoming old response new (λ same. still old.ledger new.ledger (ap (λ (world : World). world.ledger) same))
    (λ identity command answer asks. (asks.moved, asks.history))

grows : (setup : Setup) (old new : World) (step : Step) (answer : StepAnswer) → WorldStep setup true old step answer new → Grows old.ledger.history new.ledger.history
grows setup old new (Request incoming) (Replied response) is = grows_served setup incoming old (Some response) new is
grows setup old new (Request incoming) NoMemory is = grows_served setup incoming old None new is
grows setup old new (SetMoment moment) Quiet is = still old.ledger new.ledger (ap (λ (world : World). world.ledger) is)
grows setup old new Reopen Reopened is =
    let f = is.finds refl in
    let events = opening_events is.found.machine in
    (f.kept ++ events, is.history ∙ ap (λ (h : List Event). h ++ events) f.history ∙ append_assoc old.ledger.history f.kept events)
grows setup old new Reopen (NotOpened fault) is = grows_closed setup old.ledger fault new.ledger is.fails
grows setup old new step answer is = absurd is

-- what is said of calls of the desk
abbrev pub StayLaw : {D : Type 0} → DiskWords D → Type 0
StayLaw {D} words =
    (setup : Setup) (disk last : D) (ledger : Ledger) (calls : List (Call D)) → AreCalls words setup disk ledger calls last → LeavesOnly words disk last (Keeps setup ledger.history)

module _ {D : Type 0} (words : DiskWords D) (setup : Setup) (law : StayLaw words) where
  -- the steps are calls of the desk
  as_calls : (world : World) (steps : List Taken) (disk last : D) → WorldRun setup true world steps → CrashesKeep words setup disk world steps last
      → (calls : List (Call D)) × AreCalls words setup disk world.ledger calls last
  as_calls world [] disk last run idle = ([], idle)
  as_calls world (taken ∷ rest) disk last run (next, during, keeps) =
      let grown = grows setup world taken.world taken.step taken.answer run.0 in
      let behind = as_calls taken.world rest next last run.1 keeps in
      (record { moved = grown.0; disk = next; ledger = taken.world.ledger } ∷ behind.0, (grown.1, during, behind.1))

  -- behind the first of a run's steps
  stays_behind : (disk last : D) (start : World) (before rest : List Taken) → WorldRun setup true start (before ++ rest) → CrashesKeep words setup disk start (before ++ rest) last
      → (mid : D) × CrashesUpTo words setup disk start before mid × LeavesOnly words mid last (Keeps setup (world_after start before).ledger.history)
  stays_behind disk last start [] rest run keeps =
      let (calls, are) = as_calls start rest disk last run keeps in
      (disk, refl, law setup disk last start.ledger calls are)
  stays_behind disk last start (taken ∷ before) rest run (next, during, keeps) =
      let (mid, leads, stay) = stays_behind next last taken.world before rest run.1 keeps in
      (mid, (next, during, leads), stay)

  pub keeps_acknowledged : (disk last : D) (start : World) (steps : List Taken) → WorldRun setup true start steps → CrashesKeep words setup disk start steps last → KeepsAcknowledged words setup disk start steps last
  keeps_acknowledged disk last start steps run keeps before rest split =
      stays_behind disk last start before rest (subst (λ s. WorldRun setup true start s) split run) (subst (λ s. CrashesKeep words setup disk start s last) split keeps)
