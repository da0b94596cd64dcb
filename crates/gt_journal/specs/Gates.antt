-- What a crash may leave of a journal between two records and within one, over a front of bytes that no call changes.
use Rattle.std.specs.Prelude.{◌≡◌, ◌≢◌, ℕ, IsTrue, List, ◌∷◌, ◌++◌, length}
use Rattle.gt_causes.specs.Outcomes.{NoMore}
use Rattle.gt_disk.specs.Disk.{DiskWords, LeavesOnly}
use Rattle.gt_journal.specs.JournalText.{frame}

-- the front, and then a closed gate, whatever stands behind it
pub record Closed (front file : List ℕ) : Type 0 where
  pub gate : ℕ
  pub rest : List ℕ
  pub whole : file ≡ front ++ gate ∷ rest
  pub shut : gate ≢ 1

-- the front, a gate, and behind it the whole frame of a body and a closed gate
pub record Doubtful (front body : List ℕ) (gate : ℕ) (file : List ℕ) : Type 0 where
  pub rest : List ℕ
  pub whole : file ≡ front ++ gate ∷ (frame body ++ 0 ∷ rest)

-- the same, whether the gate is open or closed
abbrev pub InDoubt : List ℕ → List ℕ → List ℕ → Type 0
InDoubt front body file = (gate : ℕ) × Doubtful front body gate file

-- The disk is honest, the gate is at the end of the front, and a crash now leaves what has P.
pub record IsGateAt {D : Type 0} (words : DiskWords D) (disk : D) (place : ℕ) (front : List ℕ) (P : List ℕ → Type 0) : Type 0 where
  pub honest : IsTrue (words.honest disk)
  pub is : place ≡ length front
  pub images : NoMore P (words.may_leave disk)

-- A crash leaves what has P, at any moment from the old disk to the new one, and now.
pub record Keeps {D : Type 0} (words : DiskWords D) (old new : D) (P : List ℕ → Type 0) : Type 0 where
  pub moments : LeavesOnly words old new P
  pub images : NoMore P (words.may_leave new)
