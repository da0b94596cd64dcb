-- What a call of a forest in memory keeps, and what a stop leaves after it.
use Rattle.gt_causes.specs.Causes.{Rose}
use Rattle.gt_causes.specs.Counts.{Counts, after_answer, after_fault}
use Rattle.gt_causes.specs.Outcomes.{NoMore}
use Rattle.gt_forest.specs.Answers.{ChangesOnly, Grounds, Writes, has_failed, is_failure}
use Rattle.gt_forest.specs.MemState.{IsCall, MemState, SameNodes, forest_trees}
use Rattle.gt_forest.specs.Tree.{Trees, node_at}
use Rattle.gt_forest.specs.Words.{ForestWords, IsCounted, IsSameForest, Leaves}
use Rattle.gt_forest.specs.declared.fault.TreeFault.{TreeFault}
use Rattle.gt_forest.specs.declared.fault.TreeFault.TheVariants.{Denied, Fault, NotEmpty, NotFound, OutOfMemory, WrongKind}
use Rattle.gt_paths.specs.Path.{PathValue}
use Rattle.std.proofs.Common.{Bool, Err, IfErr, IsTrue, if◌then◌else◌, Ok, OnOk, Option, Result, Some, ap, arith, false, length, not, refl, subst, sym, true, true≢false, ◌∙◌, ◌≡◌, ℕ}

-- the words of a forest in memory
abbrev pub words : ForestWords MemState
words = record {
  faults = λ m. m.counts.faults;
  calls = λ m. m.counts.calls;
  collections = λ m. length m.trees;
  told = λ m. true;
  trees = forest_trees;
  may_leave = λ m. SameNodes (forest_trees m);
  loan = λ m. 0;
}

module _ (old new : MemState) where
  rose : (b : Bool) → new.counts ≡ (if b then after_fault old.counts else after_answer old.counts) → Rose old.counts.calls new.counts.calls × (b ≡ true → Rose old.counts.faults new.counts.faults)
  rose true is = (omega (arith, ap (λ (k : Counts). k.calls) is), λ _. omega (arith, ap (λ (k : Counts). k.faults) is))
  rose false is = (omega (arith, ap (λ (k : Counts). k.calls) is), λ no. absurd (true≢false (sym no)))

  module _ (appends : ℕ) {T : Type 0} (answer : Result T TreeFault) (is : IsCall old new appends answer) where
    pub counts : IsCounted words old answer new
    counts =
        let both = rose (has_failed answer) (ap (λ (m : MemState). m.counts) is.counts) in
        record { call = both.0; fault = λ failed. both.1 (ap (λ (r : Result T TreeFault). has_failed r) failed) }

    pub same : IsSameForest words old new
    same = record { later = is.later; calls = is.calls; collections = is.many; told = refl; loan = refl }

-- nothing is changed at all
pub leaves_same : (old new : MemState) → forest_trees new ≡ forest_trees old → NoMore (words.may_leave old) (words.may_leave new)
leaves_same old new same c left = subst (λ t. SameNodes t c) same left

-- the outcome before, of one that agrees with the trees now
abbrev older : Trees → Trees → Trees
older trees c = record { tree = λ k. record { nodes = (trees.tree k).nodes; stages = (c.tree k).stages }; denies = c.denies; is_faithful = c.is_faithful }

pub leaves : (old new : MemState) (collection : ℕ) (path : Option PathValue) (key : Option ℕ) (answer : Result Unit TreeFault) (g : Grounds) (Done MayBe : Type 0) → Writes g (forest_trees new ≡ forest_trees old) Done MayBe answer
    → ChangesOnly collection path key (forest_trees old) (forest_trees new) → Leaves words old collection path key answer new
leaves old new collection path key answer g Done MayBe did only = record {
  others = λ c left. (
    older (forest_trees old) c,
    λ k p. refl,
    record {
      paths = λ k p ne. left k p ∙ only.paths k p ne;
      stages = λ k s ne. refl;
      denied = refl;
      faithful = refl;
    },
  );
  refused = quiet answer did;
  done = lasts answer;
}
  where
    quiet : (r : Result Unit TreeFault) → Writes g (forest_trees new ≡ forest_trees old) Done MayBe r → IfErr r (λ fault. IsTrue (not (is_failure fault)) → NoMore (words.may_leave old) (words.may_leave new))
    quiet (Ok u) w = tt
    quiet (Err NotFound) w = λ _. leaves_same old new w.1
    quiet (Err Denied) w = λ _. leaves_same old new w.1
    quiet (Err WrongKind) w = λ _. leaves_same old new w.1
    quiet (Err NotEmpty) w = λ _. leaves_same old new w.1
    quiet (Err Fault) w = λ none. absurd (true≢false (sym none))
    quiet (Err OutOfMemory) w = λ _. leaves_same old new w.1

    lasts : (r : Result Unit TreeFault) → OnOk r ((p : PathValue) → path ≡ Some p → (c : Trees) → SameNodes (forest_trees new) c → node_at c collection p ≡ node_at (forest_trees new) collection p)
    lasts (Ok u) = λ p is c left. left collection p
    lasts (Err e) = tt
