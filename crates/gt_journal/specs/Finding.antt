-- What the disk's part of an opening finds.
use Rattle.std.specs.Prelude.{◌≡◌, ℕ, ◌^◌, ◌<◌, IsTrue, List, [], ◌∷◌, length, drop}
use Rattle.gt_causes.specs.Outcomes.{NoMore, Only}
use Rattle.gt_disk.specs.Disk.{DiskWords, Holds}
use Rattle.gt_journal.specs.JournalText.{texts, IsJournalText}
use Rattle.gt_journal.specs.Gates.{Closed}
use Rattle.gt_journal.specs.Reading.{IsPartial, HasRead}
use Rattle.gt_journal.specs.Opening.{OnceSynced, IsClosedAt}
use Rattle.gt_journal.specs.declared.reading.Reading.{Reading}

-- the disk is as it was, its file has this length, and is all that a crash leaves
pub record IsSynced {D : Type 0} (words : DiskWords D) (old : D) (size : ℕ) (new : D) : Type 0 where
  pub long : size ≡ length (words.seen old)
  pub seen : words.seen new ≡ words.seen old
  pub only : Only (words.seen old) (words.may_leave new)
  pub any_moment : OnceSynced words old new (λ c. c ≡ words.seen old)

-- the whole file was read behind a sync
pub record IsFileRead {D : Type 0} (words : DiskWords D) (old : D) (reading : Reading) (size : ℕ) (new : D) : Type 0 where
  pub partial : IsPartial reading
  pub small : size < 2 ^ 63
  pub read : HasRead words old size reading
  pub told : IsTrue (words.honest old) → IsSynced words old size new

-- the file of an honest disk stands for these bodies, is all that a crash leaves, and fewer than 9 bytes are behind them
pub record IsShortEnd {D : Type 0} (words : DiskWords D) (disk : D) (place : ℕ) (bodies : List (List ℕ)) : Type 0 where
  pub honest : IsTrue (words.honest disk)
  pub text : IsJournalText bodies (words.seen disk)
  pub only : Only (words.seen disk) (words.may_leave disk)
  pub is : place ≡ length (texts bodies)
  pub short : length (drop place (words.seen disk)) < 9

-- a closed gate is there
pub record IsEndClosed {D : Type 0} (words : DiskWords D) (old : D) (place : ℕ) (bodies : List (List ℕ)) (new : D) : Type 0 where
  pub images : NoMore (Closed (texts bodies)) (words.may_leave new)
  pub written : Holds (words.seen old) place (0 ∷ []) (words.seen new)

-- the file stands for these bodies, and a closed gate is behind them
pub record IsFound {D : Type 0} (words : DiskWords D) (old : D) (bodies : List (List ℕ)) (place : ℕ) (new : D) : Type 0 where
  pub is : place ≡ length (texts bodies)
  pub text : IsJournalText bodies (words.seen old)
  pub images : NoMore (Closed (texts bodies)) (words.may_leave new)
  pub file : IsClosedAt (words.seen old) place (words.seen new)
  pub any_moment : OnceSynced words old new (IsJournalText bodies)
