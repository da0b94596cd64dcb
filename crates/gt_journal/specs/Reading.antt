-- How a file of records is read piece by piece.
use Rattle.std.specs.Prelude.{◌≡◌, ℕ, ◌<◌, ◌≤◌, ◌+◌, Bool, true, false, IsTrue, List, [], ◌++◌, length, slice_index, take, drop, map, Vec}
use Rattle.std.specs.declared.alloc.Global.{Global}
use Rattle.std.specs.List.{AllByRecursion}
use Rattle.std.specs.Int.{w64, from_be_bytes}
use Rattle.gt_causes.specs.Outcomes.{NoMore}
use Rattle.gt_disk.specs.Disk.{DiskWords, LeavesOnly}
use Rattle.gt_journal.specs.JournalText.{texts, Fits, IsTail, IsCutOff}
use Rattle.gt_journal.specs.declared.reading.Reading.{Reading}

-- the lists of the bodies that were read
abbrev pub lists : List (Vec ℕ Global) → List (List ℕ)
lists vs = map (λ v. v.items) vs

-- whole records of these bodies, and then a rest
pub record Reads (file : List ℕ) (bodies : List (List ℕ)) (rest : List ℕ) : Type 0 where
  pub fit : AllByRecursion Fits bodies
  pub whole : file ≡ texts bodies ++ rest

-- the rest is a record that runs past the end, or a tail
abbrev pub IsRest : Bool → List ℕ → Type 0
IsRest true rest = IsCutOff rest
IsRest false rest = IsTail rest

-- the length of the body that a header tells
abbrev pub size_in : List ℕ → ℕ
size_in header = from_be_bytes w64 (take 8 (drop 1 header))

-- the bytes behind the whole records
abbrev pub rest_of : Reading → List ℕ
rest_of reading = reading.header.items ++ reading.body.items

-- a header of at most 9 bytes, and behind a whole one with an open gate no more than its body
pub record IsGathered (reading : Reading) : Type 0 where
  pub header : length reading.header.items ≤ 9
  pub first : length reading.header.items < 9 → reading.body.items ≡ []
  pub body : length reading.header.items ≡ 9 → slice_index reading.header.items 0 ≡ 1 → length reading.body.items ≤ size_in reading.header.items

-- the same, and less than the body
pub record IsPartial (reading : Reading) : Type 0 where
  pub gathered : IsGathered reading
  pub short : length reading.header.items ≡ 9 → slice_index reading.header.items 0 ≡ 1 → length reading.body.items < size_in reading.header.items

-- so many bytes at most may come before the header or the body is whole
pub record IsWanted (reading : Reading) (n : ℕ) : Type 0 where
  pub some : 0 < n
  pub header : length reading.header.items < 9 → length reading.header.items + n ≤ 9
  pub body : length reading.header.items ≡ 9 → slice_index reading.header.items 0 ≡ 1 → length reading.body.items + n ≤ size_in reading.header.items

-- what was read of a file, and then these bytes of it
abbrev pub GoesOn : Reading → List ℕ → Reading → Type 0
GoesOn old bytes new =
    (file : List ℕ) → Reads file (lists old.bodies.items) (rest_of old) → Reads (file ++ bytes) (lists new.bodies.items) (rest_of new)

-- so many bytes of the file were read
pub record HasRead {D : Type 0} (words : DiskWords D) (disk : D) (size : ℕ) (reading : Reading) : Type 0 where
  pub file : List ℕ
  pub long : length file ≡ size
  pub reads : Reads file (lists reading.bodies.items) (rest_of reading)
  pub told : IsTrue (words.honest disk) → file ≡ take size (words.seen disk)

-- the file is as it was, and at any moment a crash leaves no more than before
pub record HasLooked {D : Type 0} (words : DiskWords D) (old new : D) : Type 0 where
  pub seen : words.seen new ≡ words.seen old
  pub images : NoMore (words.may_leave old) (words.may_leave new)
  pub moments : LeavesOnly words old new (words.may_leave old)
