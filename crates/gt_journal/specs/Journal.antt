-- What a journal is to its callers, what its calls keep, and what its fields keep of each other.
use Rattle.std.specs.Prelude.{◌≡◌, ℕ, zero, suc, ◌<◌, ◌≤◌, ◌+◌, ◌-◌, ◌*◌, ◌^◌, nat_le, if◌then◌else◌, IsTrue, Option, None, Some, IfSome, List, [], ◌∷◌, length, take, drop}
use Rattle.std.specs.Int.{w64, from_be_bytes}
use Rattle.gt_causes.specs.Outcomes.{NoMore}
use Rattle.gt_disk.specs.Disk.{DiskWords, IsSameDisk}
use Rattle.gt_journal.specs.JournalText.{texts, IsTextWithDoubt, IsFront}
use Rattle.gt_journal.specs.Gates.{Closed, InDoubt}

-- The disk, the place behind the records, the bodies that count, the body that may count, and the longest body that can
-- be added. The bodies are those of the file where the disk is honest; all else holds of every disk.
pub record Journal (D : Type 0) : Type 0 where
  pub disk : D
  pub place : ℕ
  pub bodies : List (List ℕ)
  pub doubt : Option (List ℕ)
  pub room : ℕ

-- what each call keeps
pub record IsSameJournal {D : Type 0} (words : DiskWords D) (old new : Journal D) : Type 0 where
  pub disk : IsSameDisk words old.disk new.disk
  pub room : new.room ≡ old.room

-- a journal between two calls
pub record Rests {D : Type 0} (words : DiskWords D) (journal : Journal D) : Type 0 where
  -- the records end below 2^63, and each has 9 bytes at least
  pub small : journal.place < 2 ^ 63
  pub few : 9 * length journal.bodies ≤ journal.place
  -- they are those of the bodies
  pub place : IsTrue (words.honest journal.disk) → journal.place ≡ length (texts journal.bodies)
  -- a crash leaves what stands for the bodies, with the one in doubt or without
  pub images : IsTrue (words.honest journal.disk) → NoMore (IsTextWithDoubt journal.bodies journal.doubt) (words.may_leave journal.disk)

-- the bodies of whole records, with steps enough
unfoldable pub read_texts : ℕ → List ℕ → List (List ℕ)
read_texts zero bytes = []
read_texts (suc n) [] = []
read_texts (suc n) (gate ∷ rest) =
    let size = from_be_bytes w64 (take 8 rest) in
    if nat_le 8 (length rest) then take size (drop 8 rest) ∷ read_texts n (drop (8 + size) rest) else []

-- the bodies that a front stands for
unfoldable pub bodies_of : List ℕ → List (List ℕ)
bodies_of bytes = read_texts (length bytes) bytes

-- the body in doubt, whose frame the buffer still has
abbrev pub doubt_of : Option ℕ → List ℕ → Option (List ℕ)
doubt_of None buffer = None
doubt_of (Some size) buffer = Some (take size (drop 8 buffer))

-- a journal by its fields
abbrev pub journal_of : {D : Type 0} → DiskWords D → D → ℕ → Option ℕ → List ℕ → Journal D
journal_of words disk place pending buffer = record {
  disk = disk;
  place = place;
  bodies = bodies_of (take place (words.seen disk));
  doubt = doubt_of pending buffer;
  room = length buffer - 9;
}

-- what a crash may leave, with a body in doubt or without
abbrev pub Image : List ℕ → Option (List ℕ) → List ℕ → Type 0
Image front None file = Closed front file
Image front (Some body) file = InDoubt front body file

-- each file that a crash may leave begins with the front, and what follows is closed or the doubt
pub record Standing (may_leave : List ℕ → Type 0) (place : ℕ) (front : List ℕ) (doubt : Option (List ℕ)) : Type 0 where
  pub stands : IsFront (bodies_of front) front
  pub is : place ≡ length front
  pub images : NoMore (Image front doubt) may_leave

-- the body in doubt is in the buffer, and its record and the next gate end below 2^63
pub record IsPending (place size : ℕ) (buffer : List ℕ) : Type 0 where
  pub small : place + size + 10 < 2 ^ 63
  pub buffered : size + 9 ≤ length buffer

-- the fields of a journal: no place wraps, the buffer has room for a header, and where the disk is honest the files stand
pub record IsConsistent {D : Type 0} (words : DiskWords D) (disk : D) (place : ℕ) (pending : Option ℕ) (buffer : List ℕ) : Type 0 where
  pub small : place + 1 < 2 ^ 63
  pub pends : IfSome pending (λ size. IsPending place size buffer)
  pub size_of_buffer : 9 ≤ length buffer
  pub told : IsTrue (words.honest disk) → Standing (words.may_leave disk) place (take place (words.seen disk)) (doubt_of pending buffer)
