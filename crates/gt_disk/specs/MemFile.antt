-- A file in memory as its callers see it, when its calls fail, and what a crash of it keeps.
use Rattle.std.specs.Prelude.{◌≡◌, ◌↔◌, ℕ, ◌^◌, ◌<◌, ◌≤◌, List, [], ◌∷◌, ◌++◌, length, map, Contains, true, IsTrue, Result, OnOk, IsErr, slice_index}
use Rattle.std.proofs.Common.{inl, refl}
use Rattle.gt_causes.specs.Counts.{Counts, CountsCall}
use Rattle.gt_disk.specs.Disk.{DiskWords, DiskLaws}
use Rattle.gt_disk.specs.TornWrites.{IsOutside}
use Rattle.gt_disk.specs.Images.{State, Step, Look, Write, Sync, IsImage, LeftSince, fresh, are_within, counts, only, state_of}
use Rattle.gt_disk.specs.declared.call.Call.{Call}
use Rattle.gt_disk.specs.declared.call.Call.TheVariants.{Looked, Wrote, Synced as SyncedCall}
use Rattle.gt_disk.specs.declared.keep.Keep.{Keep}
use Rattle.gt_disk.specs.declared.keep.Keep.TheVariants.{Synced, Written, Torn}

-- the bytes that it was made with, the calls that it answered, and what it counts
pub record MemFile : Type 0 where
  pub start : List ℕ
  pub steps : List Step
  pub counts : Counts

-- a call as a step
abbrev pub step_of : Call → Step
step_of Looked = Look
step_of (Wrote at bytes) = Write at bytes.items
step_of SyncedCall = Sync

-- a record of calls as steps
abbrev pub steps_of : List Call → List Step
steps_of calls = map step_of calls

-- the bytes that a read gives
abbrev pub seen_of : MemFile → List ℕ
seen_of file = (state_of file.start file.steps).seen

-- what is said of it: a crash now leaves one of its images, and one since a moment an image of a moment since
abbrev pub file_words : DiskWords MemFile
file_words = record {
  faults = λ file. file.counts.faults;
  honest = λ file. true;
  seen = seen_of;
  may_leave = λ file. IsImage (state_of file.start file.steps);
  moment = λ file. length file.steps;
  left_since = λ file. LeftSince file.start file.steps;
  loan = λ file. 0;
}

pub file_laws : DiskLaws file_words
file_laws = record {
  reads_now = λ file honest. inl refl;
  counts_now = λ file t c honest. counts file.start file.steps t c;
  only_now = λ file c honest. only file.start file.steps c;
}

-- A call that is answered is the next step. One that fails changes the counts alone.
pub record IsCall {T E : Type 0} (old new : MemFile) (step : Step) (IsTooLong : Type 0) (result : Result T E) : Type 0 where
  pub ok : OnOk result (new ≡ record old { steps = old.steps ++ step ∷ []; counts = new.counts })
  pub err : IsErr result → new ≡ record old { counts = new.counts }
  pub counted : CountsCall old.counts new.counts IsTooLong result

-- as it reads, but each byte from a place on that was written since the last sync is 1
pub record IsTornFrom (from : ℕ) (state : State) (c : List ℕ) : Type 0 where
  pub same_length : length c ≡ length state.seen
  pub before : (i : ℕ) → i < from → slice_index c i ≡ slice_index state.seen i
  pub outside : (i : ℕ) → IsOutside state.writes i → slice_index c i ≡ slice_index state.seen i
  pub ones : (i : ℕ) → from ≤ i → i < length state.seen → ¬ IsOutside state.writes i → slice_index c i ≡ 1

-- what a crash that keeps so much leaves
abbrev pub IsKept : Keep → State → List ℕ → Type 0
IsKept Synced state c = c ≡ state.synced
IsKept Written state c = c ≡ state.seen
IsKept (Torn from) state c = IsTornFrom from state c

-- a file newly made with these bytes, of which these calls are to fail
pub record IsMade (start fails : List ℕ) (file : MemFile) : Type 0 where
  pub fresh : file ≡ record { start = start; steps = []; counts = record { fails = file.counts.fails; calls = 0; faults = 0; starved = 0 } }
  pub listed : (n : ℕ) → Contains file.counts.fails n ↔ Contains fails n

-- what a file in memory keeps of its fields: the bytes are what the calls made of them, and each write began within
pub record IsReplayed (start : List ℕ) (steps : List Step) (bytes : List ℕ) : Type 0 where
  pub is : bytes ≡ (state_of start steps).seen
  pub small : length bytes < 2 ^ 63
  pub within : IsTrue (are_within (fresh start) steps)
