-- What the suite of forests compares, and what it says where it stops.
use Rattle.std.specs.Prelude.{IsTrue, Result, false, ℕ, ◌<◌, ◌≡◌}
use Rattle.gt_forest.specs.Calls.{AreAlike, MakeDirAnswer, RemoveDirAnswer, RemoveFileAnswer, StageAppendAnswer, StageDropAnswer, StageOpenAnswer, StagePlaceAnswer}
use Rattle.gt_forest.specs.MemState.{MemState, forest_trees}
use Rattle.gt_forest.specs.Tree.{Trees, empty_tree}
use Rattle.gt_forest.specs.Words.{ForestWords}
use Rattle.gt_forest.specs.declared.fault.TreeFault.{TreeFault}
use Rattle.gt_paths.specs.Path.{PathValue}
use Rattle.gt_forest_suite.specs.declared.change.Change.{Change}
use Rattle.gt_forest_suite.specs.declared.change.Change.TheVariants.{Append, Discard, Make, Open, Place, RemoveDir, RemoveFile}
use Rattle.gt_forest_suite.specs.declared.suite_fault.SuiteFault.{SuiteFault}
use Rattle.gt_forest_suite.specs.declared.suite_fault.SuiteFault.TheVariants.{ForestFault, OtherAnswer, OutOfMemory}

-- what a call that writes did
abbrev pub Changed : ℕ → Change → Result Unit TreeFault → Trees → Trees → Type 0
Changed collection (Open key) answer = StageOpenAnswer collection key answer
Changed collection (Append key bytes) answer = StageAppendAnswer collection key bytes answer
Changed collection (Place key path mtime) answer = StagePlaceAnswer collection key path mtime answer
Changed collection (Discard key) answer = StageDropAnswer collection key answer
Changed collection (Make path) answer = MakeDirAnswer collection path answer
Changed collection (RemoveFile path) answer = RemoveFileAnswer collection path answer
Changed collection (RemoveDir path) answer = RemoveDirAnswer collection path answer

-- it stopped for a fault or for want of memory, and not since the forest was found wrong
abbrev pub IsNoVerdict : SuiteFault → Type 0
IsNoVerdict ForestFault = Unit {0}
IsNoVerdict (OtherAnswer call) = ⊥
IsNoVerdict OutOfMemory = Unit {0}

-- the forest is told, and its first two collections are as those of the one in memory
pub record AreMatched {F : Type 0} (words : ForestWords F) (forest : F) (model : MemState)
    : Type 0 where
  pub told : IsTrue (words.told forest)
  pub alike : AreAlike 2 (words.trees forest) (forest_trees model)

-- Its first two collections are empty, nothing in them is denied, and its appends store what they are
-- given.
pub record IsFresh (trees : Trees) : Type 0 where
  pub empty : (collection : ℕ) → collection < 2 → trees.tree collection ≡ empty_tree
  pub open_to_all : (collection : ℕ) (path : PathValue) → collection < 2
      → trees.denies collection path ≡ false
  pub faithful : IsTrue trees.is_faithful
