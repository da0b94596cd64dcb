-- All that is said of a forest over folders: its counts.
use Rattle.std.specs.Prelude.{ℕ}
use Rattle.gt_forest.specs.Words.{ForestWords, untold}

-- how often it has failed, how many calls were made, and how many collections there are
pub record DirCounts : Type 0 where
  pub faults : ℕ
  pub calls : ℕ
  pub collections : ℕ

-- the words of one: it tells nothing more
abbrev pub counts_of : ForestWords DirCounts
counts_of = untold (λ d. d.faults) (λ d. d.calls) (λ d. d.collections) (λ d. 0)
