-- What is said of a forest, in one word; what each call keeps, and what a stop may leave after it.
use Rattle.std.specs.Prelude.{Bool, IfErr, IsErrOf, IsTrue, OnOk, Option, Result, Some, false, not, ℕ, ◌≡◌, ◌≤◌}
use Rattle.gt_causes.specs.Causes.{Rose}
use Rattle.gt_causes.specs.Outcomes.{Follows, NoMore}
use Rattle.gt_paths.specs.Path.{PathValue}
use Rattle.gt_forest.specs.Answers.{ChangesOnly, is_failure}
use Rattle.gt_forest.specs.Tree.{Trees, no_trees, node_at}
use Rattle.gt_forest.specs.declared.fault.TreeFault.{TreeFault}
use Rattle.gt_forest.specs.declared.fault.TreeFault.TheVariants.{Fault}

-- All that is said of a forest. What its trees hold and what a stop leaves is told by forests in memory, and isn't by
-- real ones.
pub record ForestWords (F : Type 0) : Type 1 where
  -- how often it has failed: a number that never falls, and stops at 2^64 - 1
  pub faults : F → ℕ
  -- how many calls were made, those that failed too: a number that never falls, and stops at 2^64 - 1
  pub calls : F → ℕ
  -- how many collections there are
  pub collections : F → ℕ
  -- it tells what its trees hold
  pub told : F → Bool
  -- its trees, which paths are denied, and whether it is faithful: its appends store what they are given
  pub trees : F → Trees
  -- what a stop at this moment may leave of them: of the run, of the system, or of the power
  pub may_leave : F → Trees → Type 0
  -- which borrow a borrowed forest is, so that its lender finds it again: 0 for others
  pub loan : F → ℕ

-- a forest that tells nothing but its counts and its number of collections
abbrev pub untold : {F : Type 0} → (F → ℕ) → (F → ℕ) → (F → ℕ) → (F → ℕ) → ForestWords F
untold {F} faults calls collections loan = record {
  faults = faults;
  calls = calls;
  collections = collections;
  told = λ f. false;
  trees = λ f. no_trees;
  may_leave = λ f c. Unit {0};
  loan = loan;
}

-- a lent forest: all is said of the forest that it refers to, but for the loan
abbrev pub lent : {F R : Type 0} → (R → F) → (R → ℕ) → ForestWords F → ForestWords R
lent at loan words = record {
  faults = λ r. words.faults (at r);
  calls = λ r. words.calls (at r);
  collections = λ r. words.collections (at r);
  told = λ r. words.told (at r);
  trees = λ r. words.trees (at r);
  may_leave = λ r. words.may_leave (at r);
  loan = loan;
}

-- what joins the words of a forest that is told: its trees are among those that a stop now may leave
pub record ForestLaws {F : Type 0} (words : ForestWords F) : Type 0 where
  pub stands_now : (forest : F) → IsTrue (words.told forest) → words.may_leave forest (words.trees forest)

-- it holds of a forest that tells nothing
pub untold_laws : {F : Type 0} (faults calls collections loan : F → ℕ) → ForestLaws (untold faults calls collections loan)
untold_laws faults calls collections loan = record { stands_now = λ forest told. tt }

-- and of a lent one
pub lent_laws : {F R : Type 0} (at : R → F) (loan : R → ℕ) (words : ForestWords F) → ForestLaws words → ForestLaws (lent at loan words)
lent_laws at loan words laws = record { stands_now = λ r. laws.stands_now (at r) }

-- what each call keeps, where it fails too: the counts don't fall
pub record IsSameForest {F : Type 0} (words : ForestWords F) (old new : F) : Type 0 where
  pub later : words.faults old ≤ words.faults new
  pub calls : words.calls old ≤ words.calls new
  pub collections : words.collections new ≡ words.collections old
  pub told : words.told new ≡ words.told old
  pub loan : words.loan new ≡ words.loan old

-- the count of faults rose
abbrev pub HasFailed : {F : Type 0} → ForestWords F → F → F → Type 0
HasFailed words old new = Rose (words.faults old) (words.faults new)

-- the call is counted, and it answers a fault only where that is counted too
pub record IsCounted {F : Type 0} (words : ForestWords F) (old : F) {T : Type 0} (answer : Result T TreeFault) (new : F) : Type 0 where
  pub call : Rose (words.calls old) (words.calls new)
  pub fault : IsErrOf answer Fault → HasFailed words old new

-- what a call did to the trees, where they are told
abbrev pub OnTold : {F : Type 0} → ForestWords F → F → F → (Trees → Trees → Type 0) → Type 0
OnTold words old new Did = IsTrue (words.told old) → Did (words.trees old) (words.trees new)

-- at the path each stop leaves what the tree has there
abbrev pub Lasts : {F : Type 0} → ForestWords F → F → ℕ → PathValue → Type 0
Lasts words forest collection path = (c : Trees) → words.may_leave forest c → node_at c collection path ≡ node_at (words.trees forest) collection path

-- a call that reads adds nothing to what a stop may leave
abbrev pub LeavesNoMore : {F : Type 0} → ForestWords F → F → F → Type 0
LeavesNoMore words old new = IsTrue (words.told old) → NoMore (words.may_leave old) (words.may_leave new)

-- What a stop may leave after a call that writes at this path and this key.
pub record Leaves {F : Type 0} (words : ForestWords F) (old : F) (collection : ℕ) (path : Option PathValue)
    (key : Option ℕ) (answer : Result Unit TreeFault) (new : F) : Type 0 where
  -- what it might have left before, but for the path and the key, also after a fault
  pub others : Follows (ChangesOnly collection path key) (words.may_leave old) (words.may_leave new)
  -- a refused call adds nothing
  pub refused : IfErr answer (λ fault. IsTrue (not (is_failure fault)) → NoMore (words.may_leave old) (words.may_leave new))
  -- what was done lasts
  pub done : OnOk answer ((p : PathValue) → path ≡ Some p → Lasts words new collection p)

-- the same of a forest that is told
abbrev pub LeavesAt : {F : Type 0} → ForestWords F → F → ℕ → Option PathValue → Option ℕ → Result Unit TreeFault → F → Type 0
LeavesAt words old collection path key answer new = IsTrue (words.told old) → Leaves words old collection path key answer new
