-- The counts of a device in memory, and what a call makes of them.
use Rattle.std.specs.Prelude.{◌≡◌, ◌⊎◌, ℕ, ◌+◌, ◌-◌, ◌^◌, ◌<◌, ◌≤◌, min, List, Contains, length, slice_index, Result, OnOk, IsErr}

-- the calls that are to fail, counted from 1, and how many calls were made, have failed, and found no memory
pub record Counts : Type 0 where
  pub fails : List ℕ
  pub calls : ℕ
  pub faults : ℕ
  pub starved : ℕ

-- the next number of a count that stops at 2^64 - 1
abbrev pub counted : ℕ → ℕ
counted n = min (n + 1) (2 ^ 64 - 1)

-- after a call that was answered
abbrev pub after_answer : Counts → Counts
after_answer counts = record counts { calls = counted counts.calls }

-- after a call that failed
abbrev pub after_fault : Counts → Counts
after_fault counts = record counts { calls = counted counts.calls; faults = counted counts.faults }

-- after a call that found no memory
abbrev pub after_starving : Counts → Counts
after_starving counts = record counts { calls = counted counts.calls; faults = counted counts.faults; starved = counted counts.starved }

-- the next call is one of those that are to fail
abbrev pub IsListed : Counts → Type 0
IsListed counts = Contains counts.fails (counted counts.calls)

-- A call fails exactly where its number is listed, where the device refuses it, or where it found no memory and counts
-- that. One that is listed looks for no memory.
pub record CountsCall {T E : Type 0} (old new : Counts) (IsRefused : Type 0) (result : Result T E) : Type 0 where
  pub ok : OnOk result (new ≡ after_answer old)
  pub err : IsErr result → ((new ≡ after_fault old) × (IsListed old ⊎ IsRefused)) ⊎ (new ≡ after_starving old)
  pub listed : IsListed old → IsErr result × (new ≡ after_fault old)
  pub refused : IsRefused → IsErr result

-- the numbers rise
abbrev pub IsRising : List ℕ → Type 0
IsRising xs = (i j : ℕ) → i ≤ j → j < length xs → slice_index xs i ≤ slice_index xs j
