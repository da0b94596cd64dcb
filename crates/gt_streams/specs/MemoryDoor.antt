-- A door in memory, as contracts see it, and what its calls do.
use Rattle.gt_causes.specs.Counts.{Counts, IsListed, after_answer, after_fault}
use Rattle.gt_streams.specs.Doors.{DoorWords}
use Rattle.gt_streams.specs.Memory.{SinkState, SourceState}
use Rattle.gt_streams.specs.declared.door.DoorFault.{DoorFault}
use Rattle.gt_streams.specs.declared.door.DoorFault.TheVariants.{Failed, OutOfMemory}
use Rattle.std.specs.List.{slice_get}
use Rattle.std.specs.Prelude.{Bool, Err, List, None, Ok, Option, Result, Some, false, length, take, true, ◌+◌, ◌<◌, ◌↔◌, ◌≡◌, ℕ}

-- how many links are out
abbrev pub number_out : Bool → ℕ
number_out true = 1
number_out false = 0

-- the two sides of a link
abbrev pub Link : Type 0
Link = SourceState × SinkState

-- the links to hand out, how many of them were, those given back, and what the last call did
pub record DoorState : Type 0 where
  pub links : List Link
  pub next : ℕ
  pub back : List Link
  pub is_out : Bool
  pub has_ended : Bool
  pub counts : Counts

-- what is said of it
abbrev pub door_words : DoorWords DoorState Link
door_words = record { faults = λ d. d.counts.faults; is_out = λ d. d.is_out; has_ended = λ d. d.has_ended; told = λ d. true; handed = λ d. take d.next d.links; back = λ d. d.back }

-- after a call for the next link
abbrev pub after_next : DoorState → Result (Option Link) DoorFault → DoorState
after_next old (Ok (Some link)) = record old { next = old.next + 1; is_out = true; has_ended = false; counts = after_answer old.counts }
after_next old (Ok None) = record old { has_ended = true; counts = after_answer old.counts }
after_next old (Err OutOfMemory) = record old { has_ended = false; counts = after_answer old.counts }
after_next old (Err Failed) = record old { has_ended = false; counts = after_fault old.counts }

-- A call for the next link fails exactly where its number is listed, and uses up no link then. Else it hands out the next
-- one, and none exactly where all were.
pub record HandsNext (old : DoorState) (result : Result (Option Link) DoorFault) (new : DoorState) : Type 0 where
  pub value : new ≡ after_next old result
  pub some : (link : Link) → result ≡ Ok (Some link) → slice_get old.links old.next ≡ Some link
  pub none : result ≡ Ok None → old.next ≡ length old.links
  pub memory : result ≡ Err OutOfMemory → old.next < length old.links
  pub listed : (result ≡ Err Failed) ↔ IsListed old.counts
