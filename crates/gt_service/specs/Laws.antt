-- What a request makes.
use Rattle.std.specs.Prelude.{Bool, IsTrue, List, None, Ok, Option, Some, [], false, length, nat_le, true, ℕ, ◌&&◌, ◌++◌, ◌≡◌, ◌≤◌, ◌⊎◌}
use Rattle.gt_desk.specs.Desk.{Desk}
use Rattle.gt_desk.specs.DeskCall.{IsKept}
use Rattle.gt_disk.specs.Disk.{DiskWords}
use Rattle.gt_service.specs.Service.{Response, Serves, reading_of}
use Rattle.gt_requests.specs.declared.incoming.Incoming.{Incoming}
use Rattle.gt_types.specs.declared.command.Command.{Command}
use Rattle.gt_types.specs.declared.command.Command.TheVariants.{ListAccess, ListSkipped, ListSuccesses, ListTasks, ShowAccess, ShowEndpoint, ShowTask}
use Rattle.gt_types.specs.declared.event.Event.{Event}

-- the command only reads
abbrev pub is_read : Command → Bool
is_read (ListTasks limit offset) = true
is_read (ShowTask task) = true
is_read (ListSuccesses task limit offset) = true
is_read (ListSkipped task limit offset) = true
is_read (ShowEndpoint collection) = true
is_read (ListAccess collection) = true
is_read (ShowAccess collection rule) = true
is_read _ = false

-- behind the history stand the event that was in doubt, or not, and then what was made, of which this holds
pub record Makes {D : Type 0} (words : DiskWords D) (P : List Event → Type 0) (old new : Desk D) : Type 0 where
  pub kept : List Event
  pub settles : IsKept old.ledger.doubt kept
  pub made : List Event
  pub is : P made
  pub history : IsTrue (words.honest old.disk) → new.ledger.history ≡ old.ledger.history ++ (kept ++ made)

-- the status of a refusal, but not that of a journal that failed
abbrev pub is_refusal : Response → Bool
is_refusal response = nat_le 400 response.0 && nat_le response.0 413

-- a request makes at most one event
abbrev pub MakesOne : {D : Type 0} → DiskWords D → Type 0
MakesOne {D} words =
    (incoming : Incoming) (now : ℕ) (old new : Desk D) (response : Option Response) → Serves words incoming now old response new
    → Makes words (λ made. length made ≤ 1) old new

-- one that reads makes none
abbrev pub ReadsMakeNone : {D : Type 0} → DiskWords D → Type 0
ReadsMakeNone {D} words =
    (incoming : Incoming) (now : ℕ) (old new : Desk D) (response : Option Response) (identity : List ℕ) (command : Command)
    → reading_of old.setup incoming ≡ Ok (identity, command) → is_read command ≡ true → Serves words incoming now old response new
    → Makes words (λ made. made ≡ []) old new

-- one that is refused makes none: the desk is as before, or nothing is in doubt
abbrev pub RefusalsMakeNone : {D : Type 0} → DiskWords D → Type 0
RefusalsMakeNone {D} words =
    (incoming : Incoming) (now : ℕ) (old new : Desk D) (response : Response) → Serves words incoming now old (Some response) new
    → is_refusal response ≡ true → (new ≡ old) ⊎ (Makes words (λ made. made ≡ []) old new × (new.ledger.doubt ≡ None))
