-- A door of the system, as contracts see it.
use Rattle.gt_causes.specs.Counts.{counted}
use Rattle.gt_streams.specs.declared.door.DoorFault.{DoorFault}
use Rattle.gt_streams.specs.declared.door.DoorFault.TheVariants.{Failed, OutOfMemory}
use Rattle.gt_streams.specs.Doors.{DoorWords, untold_door}
use Rattle.std.specs.Prelude.{Bool, Err, Ok, Option, Result, false, ◌≡◌, ℕ}

-- whether a link is out, and the count of faults
pub record RealDoor : Type 0 where
  pub is_out : Bool
  pub faults : ℕ

-- What is said of it. It never says that no further link will come.
abbrev pub real_words : DoorWords RealDoor (ℕ × ℕ)
real_words = untold_door (λ d. d.faults) (λ d. d.is_out) (λ d. false)

-- A call for a link fails exactly where the count rises by one. Want of memory leaves it.
abbrev pub faults_after : {L : Type 0} → Result (Option L) DoorFault → ℕ → ℕ
faults_after (Ok link) n = n
faults_after (Err Failed) n = counted n
faults_after (Err OutOfMemory) n = n

-- the count behind a call for a link
abbrev pub CountsLinks : {L : Type 0} → RealDoor → Result (Option L) DoorFault → RealDoor → Type 0
CountsLinks old result new = new.faults ≡ faults_after result old.faults
