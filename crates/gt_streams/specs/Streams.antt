-- What is said of a source and of a sink, each in one word; and what their calls do.
use Rattle.std.specs.Prelude.{Bool, IfErr, IfOk, IsErr, List, OnOk, Result, [], false, length, take, ◌++◌, ◌<◌, ◌≡◌, ◌≤◌, ℕ}
use Rattle.gt_streams.specs.declared.sink.Partial.{Partial}

-- All that is said of a source. What is left is told by sources in memory, and isn't by real ones.
pub record SourceWords (S : Type 0) : Type 1 where
  -- how often a read has failed: a number that never falls, and stops at 2^64 - 1
  pub faults : S → ℕ
  -- it tells its bytes
  pub told : S → Bool
  -- the bytes that are left
  pub left : S → List ℕ

-- a source that tells nothing but its count of faults
abbrev pub untold_source : {S : Type 0} → (S → ℕ) → SourceWords S
untold_source faults = record { faults = faults; told = λ s. false; left = λ s. [] }

-- what a read keeps, where it fails too: the count of faults doesn't fall
pub record IsSameSource {S : Type 0} (words : SourceWords S) (old new : S) : Type 0 where
  pub later : words.faults old ≤ words.faults new
  pub told : words.told new ≡ words.told old

-- a read put bytes at the front of a buffer and said how many
pub record SourceAnswer {S E : Type 0} (words : SourceWords S) (old : S) (before : List ℕ) (result : Result ℕ E) (after : List ℕ) (new : S) : Type 0 where
  -- they were taken from the front of what was left
  pub ok : IfOk result (λ n. words.left old ≡ take n after ++ words.left new)
  -- no byte, where there was room for one, is the end of input
  pub end : IfOk result (λ n. 0 < length before → n ≡ 0 → words.left old ≡ [])
  -- one that failed takes nothing
  pub err : IsErr result → words.left new ≡ words.left old

-- All that is said of a sink. What it took is told by sinks in memory, and isn't by real ones.
pub record SinkWords (K : Type 0) : Type 1 where
  -- how often a write has failed: a number that never falls, and stops at 2^64 - 1
  pub faults : K → ℕ
  -- it tells what it took
  pub told : K → Bool
  -- the bytes that it took
  pub taken : K → List ℕ

-- a sink that tells nothing but its count of faults
abbrev pub untold_sink : {K : Type 0} → (K → ℕ) → SinkWords K
untold_sink faults = record { faults = faults; told = λ k. false; taken = λ k. [] }

-- what a write keeps, where it fails too: the count of faults doesn't fall
pub record IsSameSink {K : Type 0} (words : SinkWords K) (old new : K) : Type 0 where
  pub later : words.faults old ≤ words.faults new
  pub told : words.told new ≡ words.told old

-- a write took bytes from the front of these and said how many
pub record SinkAnswer {K E : Type 0} (words : SinkWords K) (old : K) (from : List ℕ) (result : Result ℕ E) (new : K) : Type 0 where
  pub ok : IfOk result (λ n. words.taken new ≡ words.taken old ++ take n from)
  -- one that failed takes nothing
  pub err : IsErr result → words.taken new ≡ words.taken old

-- all of these bytes were written, or as many as the fault says
pub record WritesAll {K : Type 0} (words : SinkWords K) (old : K) (bytes : List ℕ) (result : Result Unit Partial) (new : K) : Type 0 where
  pub ok : OnOk result (words.taken new ≡ words.taken old ++ bytes)
  pub err : IfErr result (λ fault. words.taken new ≡ words.taken old ++ take fault.wrote bytes)
