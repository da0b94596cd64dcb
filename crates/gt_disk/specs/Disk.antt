-- What is said of a disk, in one word; and what each call does to its file and to what a crash may leave.
use Rattle.std.specs.Prelude.{◌≡◌, ◌⊎◌, ℕ, ◌+◌, ◌≤◌, max, Bool, false, IsTrue, List, [], ◌++◌, length, take, drop, Result, IfOk, OnOk}
use Rattle.gt_causes.specs.Outcomes.{NoMore, Follows, Only}

-- All that is said of a disk. What it holds and what a crash leaves is told by disks in memory, and isn't by real ones.
pub record DiskWords (D : Type 0) : Type 1 where
  -- how often it has failed: a number that never falls, and stops at 2^64 - 1
  pub faults : D → ℕ
  -- it tells what it holds, and keeps the rules of a disk for that
  pub honest : D → Bool
  -- the bytes that a read gives
  pub seen : D → List ℕ
  -- what a crash at this moment may leave
  pub may_leave : D → List ℕ → Type 0
  -- the moment, as a number that doesn't fall
  pub moment : D → ℕ
  -- what a crash at some moment from that one on might have left, during a call or between two
  pub left_since : D → ℕ → List ℕ → Type 0
  -- which borrow a borrowed disk is, so that its lender finds it again: 0 for others
  pub loan : D → ℕ

-- a disk that tells nothing but its count of faults
abbrev pub untold : {D : Type 0} → (D → ℕ) → (D → ℕ) → DiskWords D
untold {D} faults loan = record {
  faults = faults;
  honest = λ d. false;
  seen = λ d. [];
  may_leave = λ d c. Unit {0};
  moment = λ d. 0;
  left_since = λ d t c. Unit {0};
  loan = loan;
}

-- a lent disk: all is said of the disk that it refers to, but for the loan
abbrev pub lent : {D R : Type 0} → (R → D) → (R → ℕ) → DiskWords D → DiskWords R
lent at loan words = record {
  faults = λ r. words.faults (at r);
  honest = λ r. words.honest (at r);
  seen = λ r. words.seen (at r);
  may_leave = λ r. words.may_leave (at r);
  moment = λ r. words.moment (at r);
  left_since = λ r. words.left_since (at r);
  loan = loan;
}

-- what joins the words of an honest disk
pub record DiskLaws {D : Type 0} (words : DiskWords D) : Type 0 where
  -- the file as it reads is one of those that a crash now may leave
  pub reads_now : (disk : D) → IsTrue (words.honest disk) → words.may_leave disk (words.seen disk)
  -- this moment is one of those since an earlier one
  pub counts_now : (disk : D) (t : ℕ) (c : List ℕ) → IsTrue (words.honest disk) → t ≤ words.moment disk → words.may_leave disk c → words.left_since disk t c
  -- since this moment there is no other
  pub only_now : (disk : D) (c : List ℕ) → IsTrue (words.honest disk) → words.left_since disk (words.moment disk) c → words.may_leave disk c

-- they hold of a disk that tells nothing
pub untold_laws : {D : Type 0} (faults loan : D → ℕ) → DiskLaws (untold faults loan)
untold_laws faults loan = record {
  reads_now = λ disk honest. tt;
  counts_now = λ disk t c honest le left. tt;
  only_now = λ disk c honest left. tt;
}

-- and of a lent one
pub lent_laws : {D R : Type 0} (at : R → D) (loan : R → ℕ) (words : DiskWords D) → DiskLaws words → DiskLaws (lent at loan words)
lent_laws at loan words laws = record {
  reads_now = λ r. laws.reads_now (at r);
  counts_now = λ r. laws.counts_now (at r);
  only_now = λ r. laws.only_now (at r);
}

-- new is old with these bytes at this place
abbrev pub Holds : List ℕ → ℕ → List ℕ → List ℕ → Type 0
Holds old at bytes new = new ≡ take at old ++ bytes ++ drop (at + length bytes) old

-- After a write of n bytes that was cut short: any bytes in the range and past the old end, the same elsewhere,
-- and any length from the old one to the end of the range.
pub record Torn (at n : ℕ) (old new : List ℕ) : Type 0 where
  pub before : take at new ≡ take at old
  pub after : drop (at + n) new ≡ drop (at + n) old
  pub no_shorter : length old ≤ length new
  pub no_longer : length new ≤ max (length old) (at + n)

-- what each call keeps, where it fails too: the count of faults doesn't fall
pub record IsSameDisk {D : Type 0} (words : DiskWords D) (old new : D) : Type 0 where
  pub later : words.faults old ≤ words.faults new
  pub honest : words.honest new ≡ words.honest old
  pub loan : words.loan new ≡ words.loan old

-- Time goes on: a crash since t might have left what it might have left before, or what it may leave now.
pub record Elapses {D : Type 0} (words : DiskWords D) (old new : D) : Type 0 where
  pub later : words.moment old ≤ words.moment new
  pub nothing_else : (t : ℕ) (c : List ℕ) → t ≤ words.moment old → words.left_since new t c → words.left_since old t c ⊎ words.may_leave new c
  pub keeps : (t : ℕ) (c : List ℕ) → t ≤ words.moment old → words.left_since old t c → words.left_since new t c

-- the length was asked for
pub record LenAnswer {D E : Type 0} (words : DiskWords D) (old : D) (result : Result ℕ E) (new : D) : Type 0 where
  pub ok : IfOk result (λ n. n ≡ length (words.seen old))
  -- nothing of the file changes, also where it fails
  pub seen : words.seen new ≡ words.seen old
  pub images : NoMore (words.may_leave old) (words.may_leave new)
  pub time : Elapses words old new

-- bytes were read from a place on, into these
pub record ReadAnswer {D E : Type 0} (words : DiskWords D) (old : D) (at : ℕ) (before : List ℕ) (result : Result Unit E) (after : List ℕ) (new : D) : Type 0 where
  pub ok : OnOk result (after ≡ take (length before) (drop at (words.seen old)))
  -- nothing of the file changes, also where it fails
  pub seen : words.seen new ≡ words.seen old
  pub images : NoMore (words.may_leave old) (words.may_leave new)
  pub time : Elapses words old new

-- bytes were written at a place
pub record WriteAnswer {D E : Type 0} (words : DiskWords D) (old : D) (at : ℕ) (bytes : List ℕ) (result : Result Unit E) (new : D) : Type 0 where
  pub ok : OnOk result (Holds (words.seen old) at bytes (words.seen new))
  -- a write that failed may be torn, and so may one that a crash finds
  pub others : Torn at (length bytes) (words.seen old) (words.seen new)
  pub images : Follows (Torn at (length bytes)) (words.may_leave old) (words.may_leave new)
  pub time : Elapses words old new

-- a sync was made
pub record SyncAnswer {D E : Type 0} (words : DiskWords D) (old : D) (result : Result Unit E) (new : D) : Type 0 where
  pub ok : OnOk result (words.seen new ≡ words.seen old)
  -- from then on a crash leaves what a read gives
  pub durable : OnOk result (Only (words.seen old) (words.may_leave new))
  pub images : NoMore (words.may_leave old) (words.may_leave new)
  pub time : Elapses words old new

-- A crash at any moment from the old disk to the new one leaves a file that has P.
pub record LeavesOnly {D : Type 0} (words : DiskWords D) (old new : D) (P : List ℕ → Type 0) : Type 0 where
  pub later : words.moment old ≤ words.moment new
  pub each : (c : List ℕ) → words.left_since new (words.moment old) c → P c
  -- for a run that began earlier
  pub before : (t : ℕ) (c : List ℕ) → t ≤ words.moment old → words.left_since new t c → words.left_since old t c ⊎ P c
