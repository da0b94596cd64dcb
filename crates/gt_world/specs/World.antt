-- The world that a run goes through, and what its steps may do.
use Rattle.gt_causes.specs.Causes.{Rose}
use Rattle.gt_desk.specs.DeskCall.{DeskCall}
use Rattle.gt_desk.specs.History.{Ledger}
use Rattle.gt_desk.specs.Opening.{FailsToReopen, Finds, Opens, opening_events}
use Rattle.gt_desk.specs.declared.fault.DeskFault.{DeskFault}
use Rattle.gt_desk.specs.declared.fault.OpenFault.{OpenFault}
use Rattle.gt_desk.specs.declared.fault.OpenFault.TheVariants.{JournalFault}
use Rattle.gt_machine.specs.Answer.{answer_of}
use Rattle.gt_requests.specs.declared.fault.RequestFault.{RequestFault}
use Rattle.gt_requests.specs.declared.incoming.Incoming.{Incoming}
use Rattle.gt_service.specs.Service.{Response, ServesAs, reading_of}
use Rattle.gt_setup.specs.Setup.{Setup}
use Rattle.gt_types.specs.declared.command.Command.{Command}
use Rattle.gt_types.specs.declared.event.Event.{Event}
use Rattle.gt_types.specs.declared.reply.Reply.{Reply}
use Rattle.std.specs.Prelude.{Bool, IfSome, IsTrue, List, None, Option, Result, Some, [], ◌++◌, ◌∷◌, ◌≡◌, ◌≤◌, ℕ}

-- the ledger of the desk, the present moment in seconds since 1970, and the count of the disk's faults
pub record World : Type 0 where
  pub ledger : Ledger
  pub moment : ℕ
  pub faults : ℕ

-- the world before the first line
abbrev pub world_on : Ledger → ℕ → World
world_on ledger faults = record { ledger = ledger; moment = 0; faults = faults }

-- what is asked of the world: a request as it comes in, another moment, or that the desk is closed and opened again
pub data Step : Type 0 where
  Request : (incoming : Incoming) → Step
  SetMoment : (moment : ℕ) → Step
  Reopen : Step

-- what a step is told: a status and the bytes of a document, nothing, that the desk is open again or isn't, or that memory was
-- wanted
pub data StepAnswer : Type 0 where
  Replied : (response : Response) → StepAnswer
  Quiet : StepAnswer
  Reopened : StepAnswer
  NotOpened : (fault : OpenFault) → StepAnswer
  NoMemory : StepAnswer

-- a step of the desk changes the ledger and the count of faults, which doesn't fall, and nothing else
pub record IsDeskStep (old new : World) : Type 0 where
  pub frame : new ≡ record old { ledger = new.ledger; faults = new.faults }
  pub later : old.faults ≤ new.faults

-- the desk was asked for a caller's command
pub record Asks (setup : Setup) (identity : List ℕ) (command : Command) (old : World) (result : Result Reply DeskFault) (new : World) : Type 0 where
  pub moved : List Event
  pub call : DeskCall setup (λ m. answer_of setup m identity command old.moment) old.ledger result moved new.ledger
  pub history : new.ledger.history ≡ old.ledger.history ++ moved
  pub step : IsDeskStep old new

-- A request that is read so was served at the present moment, by the service's definition; without a response memory was
-- wanted.
abbrev pub ServesWorld : Setup → Result (List ℕ × Command) RequestFault → World → Option Response → World → Type 0
ServesWorld setup reading old response new = ServesAs setup (λ identity command answer. Asks setup identity command old answer new) reading old response new

-- A request was served. It is told that the journal failed only where a fault was counted.
pub record IsServed (setup : Setup) (incoming : Incoming) (old : World) (response : Option Response) (new : World) : Type 0 where
  pub serves : ServesWorld setup (reading_of setup incoming) old response new
  pub cause : IfSome response (λ r. r.0 ≡ 503 → Rose old.faults new.faults)

-- The desk was closed and opened: where the disk is honest, the doubt was settled and nothing else, and then opened.
pub record Reopens (setup : Setup) (honest : Bool) (old new : World) : Type 0 where
  pub found : Ledger
  pub finds : IsTrue honest → Finds old.ledger found
  pub opens : Opens setup found new.ledger
  pub history : new.ledger.history ≡ found.history ++ opening_events found.machine
  pub step : IsDeskStep old new

-- The desk was closed and not opened again.
pub record StaysClosed (setup : Setup) (honest : Bool) (old : World) (fault : OpenFault) (new : World) : Type 0 where
  pub fails : FailsToReopen setup honest old.ledger fault new.ledger
  pub step : IsDeskStep old new
  pub cause : fault ≡ JournalFault → Rose old.faults new.faults

-- from `old` the step may be told so, and lead to `new`
abbrev pub WorldStep : Setup → Bool → World → Step → StepAnswer → World → Type 0
WorldStep setup honest old (Request incoming) (Replied response) new = IsServed setup incoming old (Some response) new
WorldStep setup honest old (Request incoming) NoMemory new = IsServed setup incoming old None new
WorldStep setup honest old (SetMoment moment) Quiet new = new ≡ record old { moment = moment }
WorldStep setup honest old Reopen Reopened new = Reopens setup honest old new
WorldStep setup honest old Reopen (NotOpened fault) new = StaysClosed setup honest old fault new
-- no other answer is given
WorldStep setup honest old step answer new = ⊥

-- a step, what it was told, and the world after it
pub record Taken : Type 0 where
  pub step : Step
  pub answer : StepAnswer
  pub world : World

-- one step, and this is said of its answer
abbrev pub IsOneStep : Step → (StepAnswer → Type 0) → List Taken → Type 0
IsOneStep step is [] = ⊥
IsOneStep step is (taken ∷ []) = (taken.step ≡ step) × is taken.answer
IsOneStep step is (taken ∷ (second ∷ rest)) = ⊥

-- the world after these steps
abbrev pub world_after : World → List Taken → World
world_after start [] = start
world_after start (taken ∷ rest) = world_after taken.world rest

-- one step after another
abbrev pub WorldRun : Setup → Bool → World → List Taken → Type 0
WorldRun setup honest start [] = Unit {0}
WorldRun setup honest start (taken ∷ rest) = WorldStep setup honest start taken.step taken.answer taken.world × WorldRun setup honest taken.world rest
