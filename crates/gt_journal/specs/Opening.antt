-- What an opening says of the file, and what a crash leaves meanwhile.
use Rattle.std.specs.Prelude.{◌≡◌, ◌⊎◌, ℕ, ◌≤◌, ◌*◌, List, [], ◌∷◌, length, None, Result, Ok, Err, Vec}
use Rattle.std.specs.declared.alloc.Global.{Global}
use Rattle.gt_causes.specs.Outcomes.{Only}
use Rattle.gt_disk.specs.Disk.{DiskWords, Holds, LeavesOnly}
use Rattle.gt_journal.specs.JournalText.{IsJournalText, IsDamagedAfter}
use Rattle.gt_journal.specs.Journal.{Journal}
use Rattle.gt_journal.specs.Reading.{lists}
use Rattle.gt_journal.specs.declared.open_fault.OpenFault.{OpenFault}
use Rattle.gt_journal.specs.declared.open_fault.OpenFault.TheVariants.{JournalFault, Damaged, OutOfMemory}

-- Until the file as it read was all on the disk a crash leaves what it might have left at the start, and from then on
-- what has P.
pub record OnceSynced {D : Type 0} (words : DiskWords D) (old new : D) (P : List ℕ → Type 0) : Type 0 where
  pub synced : D
  pub before : LeavesOnly words old synced (words.may_leave old)
  pub only : Only (words.seen old) (words.may_leave synced)
  pub after : LeavesOnly words synced new P

-- the same, or that was never so
abbrev pub IfSynced : {D : Type 0} → DiskWords D → D → D → (List ℕ → Type 0) → Type 0
IfSynced words old new P = LeavesOnly words old new (words.may_leave old) ⊎ OnceSynced words old new P

-- the file stands for the same bodies, and where the old one is damaged it is that very file
pub record HasSameBodies (old file : List ℕ) : Type 0 where
  pub text : (bodies : List (List ℕ)) → IsJournalText bodies old → IsJournalText bodies file
  pub damaged : (bodies : List (List ℕ)) → IsDamagedAfter bodies old → file ≡ old

-- where a refusal says that the file is damaged, it is damaged there, after the bodies that the refusal carries
abbrev pub IsDamagedAs : OpenFault → List ℕ → Type 0
IsDamagedAs JournalFault file = Unit {0}
IsDamagedAs (Damaged at_record bodies) file = (at_record ≡ length bodies.items) × IsDamagedAfter (lists bodies.items) file
IsDamagedAs OutOfMemory file = Unit {0}

-- a refusal that says nothing of damage
abbrev pub IsNoDamage : OpenFault → Type 0
IsNoDamage JournalFault = Unit {0}
IsNoDamage (Damaged at_record bodies) = ⊥
IsNoDamage OutOfMemory = Unit {0}

-- an opening leaves the file as it was, or puts one closed gate behind the records
abbrev pub IsClosedAt : List ℕ → ℕ → List ℕ → Type 0
IsClosedAt old place new = (new ≡ old) ⊎ Holds old place (0 ∷ []) new

-- the file of an honest disk was opened
pub record IsOpened {D : Type 0} (words : DiskWords D) (disk : D) (bodies : List (List ℕ)) (journal : Journal D) : Type 0 where
  -- it stands for the bodies
  pub is : journal.bodies ≡ bodies
  pub text : IsJournalText bodies (words.seen disk)
  pub file : IsClosedAt (words.seen disk) journal.place (words.seen journal.disk)
  -- and so does what a crash leaves, once it is on the disk
  pub any_moment : OnceSynced words disk journal.disk (IsJournalText bodies)

-- the file of an honest disk was not opened
pub record IsNotOpened {D : Type 0} (words : DiskWords D) (old : D) (fault : OpenFault) (new : D) : Type 0 where
  -- it is damaged where the refusal says so, and then as it was
  pub damaged : IsDamagedAs fault (words.seen old)
  pub seen : IsNoDamage fault ⊎ (words.seen new ≡ words.seen old)
  -- a crash leaves the same bodies, once the file is on the disk
  pub any_moment : IfSynced words old new (HasSameBodies (words.seen old))

-- nothing is in doubt, and each body that was read has 9 bytes at least
pub record IsFresh {D : Type 0} (bodies : List (List ℕ)) (journal : Journal D) : Type 0 where
  pub clear : journal.doubt ≡ None
  pub few : 9 * length bodies ≤ journal.place

-- the disk that comes back, in the journal or with the refusal
abbrev pub disk_in : {D : Type 0} → Result (Journal D × Vec (Vec ℕ Global) Global) (OpenFault × D) → D
disk_in (Ok opened) = opened.0.disk
disk_in (Err refused) = refused.1
