-- A source and a sink in memory, as contracts see them, and what their calls do.
use Rattle.gt_causes.specs.Counts.{Counts, CountsCall, IsListed, after_answer, after_fault}
use Rattle.gt_streams.specs.Streams.{SinkWords, SourceWords}
use Rattle.std.specs.Prelude.{Contains, IfOk, IsErr, List, Result, drop, length, min, take, true, ◌++◌, ◌≡◌, ◌↔◌, ℕ}

-- the bytes left, the most that a read gives, and what it counts
pub record SourceState : Type 0 where
  pub left : List ℕ
  pub piece : ℕ
  pub counts : Counts

-- what is said of it
abbrev pub source_words : SourceWords SourceState
source_words = record { faults = λ s. s.counts.faults; told = λ s. true; left = λ s. s.left }

-- none of these calls was made, and those listed are to fail
pub record IsFresh (fails : List ℕ) (counts : Counts) : Type 0 where
  pub fresh : counts ≡ record { fails = counts.fails; calls = 0; faults = 0; starved = 0 }
  pub listed : (n : ℕ) → Contains counts.fails n ↔ Contains fails n

-- A read fails exactly where its number is listed, and else gives as much as it may.
pub record Gives {E : Type 0} (old : SourceState) (before : List ℕ) (result : Result ℕ E) (after : List ℕ) (new : SourceState) : Type 0 where
  pub number : IfOk result (λ n. n ≡ min (min (length before) old.piece) (length old.left))
  pub given : IfOk result (λ n. after ≡ take n old.left ++ drop n before)
  pub ok : IfOk result (λ n. new ≡ record old { left = drop n old.left; counts = after_answer old.counts })
  pub err : IsErr result → new ≡ record old { counts = after_fault old.counts }
  pub listed : IsErr result ↔ IsListed old.counts

-- the bytes taken, the most that a write takes, and what it counts
pub record SinkState : Type 0 where
  pub taken : List ℕ
  pub piece : ℕ
  pub counts : Counts

-- what is said of it
abbrev pub sink_words : SinkWords SinkState
sink_words = record { faults = λ s. s.counts.faults; told = λ s. true; taken = λ s. s.taken }

-- A write takes as much as it may. It fails exactly where its number is listed, or where it found no memory.
pub record Takes {E : Type 0} (old : SinkState) (from : List ℕ) (result : Result ℕ E) (new : SinkState) : Type 0 where
  pub number : IfOk result (λ n. n ≡ min (length from) old.piece)
  pub ok : IfOk result (λ n. new ≡ record old { taken = old.taken ++ take n from; counts = new.counts })
  pub err : IsErr result → new ≡ record old { counts = new.counts }
  pub counted : CountsCall old.counts new.counts ⊥ result
