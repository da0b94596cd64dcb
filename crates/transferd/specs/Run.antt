-- A run of a script: its lines, each with the steps that it made.
use Rattle.gt_desk.specs.declared.fault.OpenFault.{OpenFault}
use Rattle.gt_requests.specs.declared.incoming.Incoming.{Incoming}
use Rattle.gt_script.specs.declared.line.Line.{Line}
use Rattle.gt_script.specs.declared.line.Line.TheVariants.{End, Now, Restart, Send}
use Rattle.gt_service.specs.Service.{Response}
use Rattle.gt_setup.specs.Setup.{Setup}
use Rattle.std.specs.List.{AllByRecursion, flat_map}
use Rattle.std.specs.Prelude.{Bool, IsSome, List, None, Option, Some, [], false, map, ◌++◌, ◌∷◌, ◌≡◌, ◌≢◌, ℕ}
use Rattle.gt_world.specs.World.{IsOneStep, NoMemory, NotOpened, Quiet, Reopen, Reopened, Replied, Request, SetMoment, StepAnswer, Taken, World, WorldRun, world_after}

-- a line that was carried out, and the steps that it made
pub record Played : Type 0 where
  pub line : Line
  pub steps : List Taken

-- the request of a line, as it comes in
abbrev pub incoming_of : (token : Option (List ℕ)) → (method target body : List ℕ) → Incoming
incoming_of token method target body = record { method = method; target = target; token = token; body = body; close = false }

-- the response that a step was told
abbrev pub response_in : StepAnswer → Option Response
response_in (Replied response) = Some response
response_in answer = None

-- the steps of a whole line: what they do is in gt_world/specs/World.antt, and of a request in gt_service/specs/Service.antt
abbrev pub Makes : Line → List Taken → Type 0
Makes End steps = steps ≡ []
Makes (Now moment) steps = IsOneStep (SetMoment moment) (λ answer. answer ≡ Quiet) steps
Makes (Send token method target body) steps = IsOneStep (Request (incoming_of token method target body)) (λ answer. IsSome (response_in answer)) steps
Makes Restart steps = IsOneStep Reopen (λ answer. answer ≡ Reopened) steps

-- the desk was not opened again, for this fault
abbrev pub ReopenFails : OpenFault → List Taken → Type 0
ReopenFails fault steps = IsOneStep Reopen (λ answer. answer ≡ NotOpened fault) steps

-- the steps of a request for which memory was wanted
abbrev pub RequestWantsMemory : Incoming → List Taken → Type 0
RequestWantsMemory incoming steps = IsOneStep (Request incoming) (λ answer. answer ≡ NoMemory) steps

-- each line made its steps, one line after another
abbrev pub ScriptRun : Setup → Bool → World → List Played → Type 0
ScriptRun setup honest start [] = Unit {0}
ScriptRun setup honest start (played ∷ rest) =
    Makes played.line played.steps × WorldRun setup honest start played.steps × ScriptRun setup honest (world_after start played.steps) rest

-- the world after these lines
abbrev pub world_at : World → List Played → World
world_at start [] = start
world_at start (played ∷ rest) = world_at (world_after start played.steps) rest

abbrev pub lines_of : List Played → List Line
lines_of run = map (λ played. played.line) run

-- the steps of all lines
abbrev pub steps_of : List Played → List Taken
steps_of run = flat_map (λ played. played.steps) run

-- none of these lines is the end
abbrev pub IsUnended : List Line → Type 0
IsUnended lines = AllByRecursion (λ line. line ≢ End) lines

-- the last of these lines is the end, and no other is
abbrev pub IsEnded : List Line → Type 0
IsEnded lines = (before : List Line) × IsUnended before × (lines ≡ before ++ End ∷ [])
