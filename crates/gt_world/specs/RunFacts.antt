-- Steps behind steps, what a request that was served did, and that no step lowers the count of the disk's faults.
use Rattle.gt_desk.specs.declared.fault.DeskFault.{DeskFault}
use Rattle.gt_requests.specs.declared.fault.RequestFault.{RequestFault}
use Rattle.gt_requests.specs.declared.incoming.Incoming.{Incoming}
use Rattle.gt_service.specs.Service.{IsAnswered, IsUntouched, Response, reading_of}
use Rattle.gt_setup.specs.Setup.{Setup}
use Rattle.gt_types.specs.declared.command.Command.{Command}
use Rattle.gt_types.specs.declared.reply.Reply.{Reply}
use Rattle.gt_world.specs.World.{Asks, IsServed, NoMemory, NotOpened, Quiet, Reopen, Reopened, Replied, Request, ServesWorld, SetMoment, Step, StepAnswer, Taken, World, WorldRun, WorldStep, world_after}
use Rattle.std.proofs.Common.{Bool, Err, List, None, Ok, Option, Result, Some, [], refl, subst, sym, ⊎_elim, ◌++◌, ◌∷◌, ◌≡◌, ◌≤◌, ℕ}
use Rattle.std.proofs.Math.Nat.{le_refl, le_trans}

-- the world after two runs is the one after the second, from the world after the first
pub world_after_append : (start : World) (first second : List Taken) → world_after start (first ++ second) ≡ world_after (world_after start first) second
world_after_append start [] second = refl
world_after_append start (taken ∷ rest) second = world_after_append taken.world rest second

-- a run, and one from the world after it, are one run
pub run_append : (setup : Setup) (honest : Bool) (start : World) (first second : List Taken) → WorldRun setup honest start first → WorldRun setup honest (world_after start first) second → WorldRun setup honest start (first ++ second)
run_append setup honest start [] second run further = further
run_append setup honest start (taken ∷ rest) second run further = (run.0, run_append setup honest taken.world rest second run.1 further)

-- What holds where the desk wasn't asked, and where it was, holds of each request that was served.
pub of_served : (P : Type 0) (setup : Setup) (incoming : Incoming) (old : World) (response : Option Response) (new : World) → (new ≡ old → P)
    → ((identity : List ℕ) (command : Command) (answer : Result Reply DeskFault) → Asks setup identity command old answer new → P) → IsServed setup incoming old response new → P
of_served P setup incoming old response new still asked is = by_reading (reading_of setup incoming) is.serves
  where
    by_reading : (reading : Result (List ℕ × Command) RequestFault) → ServesWorld setup reading old response new → P
    by_reading (Ok request) served =
        ⊎_elim (λ (u : IsUntouched old response new). still u.still)
        (λ (a : IsAnswered setup (λ answer. Asks setup request.0 request.1 old answer new) response). asked request.0 request.1 a.answer a.call) served
    by_reading (Err fault) served = still served.still

served_later : (setup : Setup) (incoming : Incoming) (old : World) (response : Option Response) (new : World) → IsServed setup incoming old response new → old.faults ≤ new.faults
served_later setup incoming old response new =
    of_served (old.faults ≤ new.faults) setup incoming old response new (λ same. subst (λ (w : World). old.faults ≤ w.faults) (sym same) (le_refl old.faults))
    (λ identity command answer asks. asks.step.later)

-- the count doesn't fall in a step
pub step_later : (setup : Setup) (honest : Bool) (old new : World) (step : Step) (answer : StepAnswer) → WorldStep setup honest old step answer new → old.faults ≤ new.faults
step_later setup honest old new (Request incoming) (Replied response) is = served_later setup incoming old (Some response) new is
step_later setup honest old new (Request incoming) NoMemory is = served_later setup incoming old None new is
step_later setup honest old new (SetMoment moment) Quiet is = subst (λ (w : World). old.faults ≤ w.faults) (sym is) (le_refl old.faults)
step_later setup honest old new Reopen Reopened is = is.step.later
step_later setup honest old new Reopen (NotOpened fault) is = is.step.later
step_later setup honest old new step answer is = absurd is

-- nor in a run
pub run_later : (setup : Setup) (honest : Bool) (start : World) (steps : List Taken) → WorldRun setup honest start steps → start.faults ≤ (world_after start steps).faults
run_later setup honest start [] run = le_refl start.faults
run_later setup honest start (taken ∷ rest) run = le_trans (step_later setup honest start taken.world taken.step taken.answer run.0) (run_later setup honest taken.world rest run.1)
