-- A call that is asked of a told forest and of one in memory, and a file that is placed.
use Rattle.gt_forest.specs.Calls.{Call, Given, IsAnswered, MakeDirCall, RemoveDirCall, RemoveFileCall, StageAppendAnswer, StageAppendCall, StageDropCall, StageOpenAnswer, StageOpenCall, StagePlaceAnswer, StagePlaceCall, collection_of, is_decided}
use Rattle.gt_forest.specs.Laws.{TreesDecideAnswers}
use Rattle.gt_forest.specs.MemState.{MemState, forest_trees, is_denied}
use Rattle.gt_forest.specs.Tree.{Trees, empty_tree, node_at}
use Rattle.gt_forest.specs.Words.{ForestWords, IsSameForest, LeavesAt, OnTold}
use Rattle.gt_forest.specs.declared.fault.TreeFault.{TreeFault}
use Rattle.gt_forest.specs.declared.node.Node.TheVariants.{File}
use Rattle.gt_forest_suite.specs.Suite.{AreMatched, Changed, IsFresh}
use Rattle.gt_forest_suite.specs.declared.change.Change.{Change}
use Rattle.gt_forest_suite.specs.declared.change.Change.TheVariants.{Append, Discard, Make, Open, Place, RemoveDir, RemoveFile}
use Rattle.gt_paths.specs.Path.{PathValue}
use Rattle.std.proofs.Common.{Err, IsTrue, List, Ok, OnOk, Result, Some, [], ap, arith, refl, rules, subst, sym, ◌++◌, ◌<◌, ◌∙◌, ◌≡◌, ℕ}
use Rattle.std.specs.Option.{option_map_or}
use Rattle.std.specs.Result.{result_map_both}

some_same : {X : Type 0} (x y : X) → Some x ≡ Some y → x ≡ y
some_same x y is = ap (λ o. option_map_or (λ z. z) o x) is

pub on_ok : {T E : Type 0} {P : Type 0} (r : Result T E) → P → OnOk r P
on_ok (Ok x) p = p
on_ok (Err e) p = tt

module _ {F : Type 0} (words : ForestWords F) (old new : F) (model later : MemState) (law : TreesDecideAnswers) (same : words.told new ≡ words.told old) (matched : AreMatched words old model) where
  pub asked : (call : Call) (a b : Result (Given call) TreeFault) → collection_of call < 2 → IsTrue (is_decided a) → IsTrue (is_decided b)
      → OnTold words old new (IsAnswered call a) → IsAnswered call b (forest_trees model) (forest_trees later) → (b ≡ a) × AreMatched words new later
  asked call a b small da db did done =
      let one = law 2 call a b (words.trees old) (words.trees new) (forest_trees model) (forest_trees later) small matched.alike da db (did matched.told) done in
      (one.0, record { told = same ∙ matched.told; alike = one.1 })

  pub changed : (collection : ℕ) (change : Change) (a b : Result Unit TreeFault) → collection < 2 → IsTrue (is_decided a) → IsTrue (is_decided b)
      → OnTold words old new (Changed collection change a) → Changed collection change b (forest_trees model) (forest_trees later) → (b ≡ a) × AreMatched words new later
  changed c (Open key) a b = asked (StageOpenCall c key) a b
  changed c (Append key bytes) a b = asked (StageAppendCall c key bytes) a b
  changed c (Place key path mtime) a b = asked (StagePlaceCall c key path mtime) a b
  changed c (Discard key) a b = asked (StageDropCall c key) a b
  changed c (Make path) a b = asked (MakeDirCall c path) a b
  changed c (RemoveFile path) a b = asked (RemoveFileCall c path) a b
  changed c (RemoveDir path) a b = asked (RemoveDirCall c path) a b

-- each stop leaves the file with its bytes
pub lasts : {F : Type 0} (words : ForestWords F) (first opened appended last : F) (path : PathValue) (bytes : List ℕ) (answer : Result Unit TreeFault)
    → OnTold words first opened (StageOpenAnswer 0 1 (Ok tt)) → words.told opened ≡ words.told first
    → OnTold words opened appended (StageAppendAnswer 0 1 bytes (Ok tt)) → words.told appended ≡ words.told opened
    → OnTold words appended last (StagePlaceAnswer 0 1 path 0 answer) → LeavesAt words appended 0 (Some path) (Some 1) answer last
    → OnOk answer (IsTrue (words.told first) → IsTrue (words.trees first).is_faithful → (c : Trees) → words.may_leave last c → node_at c 0 path ≡ Some (File bytes 0))
lasts words first opened appended last path bytes (Ok u) made told_made added told_added placed leaves = λ told faithful c left.
    let now = told_made ∙ told in
    let later = told_added ∙ now in
    let a = made told in
    let b = added now in
    let p = placed later in
    let was : b.answers.1.old ≡ [] = some_same b.answers.1.old [] (sym b.answers.1.was ∙ a.answers.1) in
    let stored : b.answers.1.added ≡ bytes = b.answers.1.faithful (subst IsTrue (sym a.others.faithful) faithful) in
    let all : p.answers.1.bytes ≡ bytes = some_same p.answers.1.bytes (b.answers.1.old ++ b.answers.1.added) (sym p.answers.1.was ∙ b.answers.1.is) ∙ (λ i. was i ++ stored i) in
    (leaves later).done path refl c left ∙ p.answers.1.is ∙ ap (λ bs. Some (File bs 0)) all
lasts words first opened appended last path bytes (Err e) made told_made added told_added placed leaves = tt

-- each call keeps the forest, and so do many
module _ {F : Type 0} (words : ForestWords F) where
  pub unchanged : (f : F) → IsSameForest words f f
  unchanged f = record { later = search rules; calls = search rules; collections = refl; told = refl; loan = refl }

  pub then_same : {a b c : F} → IsSameForest words a b → IsSameForest words b c → IsSameForest words a c
  then_same first second = record {
    later = omega (arith, first.later, second.later);
    calls = omega (arith, first.calls, second.calls);
    collections = second.collections ∙ first.collections;
    told = second.told ∙ first.told;
    loan = second.loan ∙ first.loan;
  }

-- what is made of an answer is decided where the answer is
pub mapped : {T S : Type 0} (f : T → S) (r : Result T TreeFault) → IsTrue (is_decided r) → IsTrue (is_decided (result_map_both f (λ fault. fault) r))
mapped f (Ok x) decided = refl
mapped f (Err e) decided = decided

-- one in memory that was just made is as a fresh one
pub fresh_matched : {F : Type 0} (words : ForestWords F) (forest : F) (model : MemState) → IsTrue (words.told forest) → IsFresh (words.trees forest)
    → model.denied ≡ [] → IsTrue (forest_trees model).is_faithful → ((collection : ℕ) → collection < 2 → (forest_trees model).tree collection ≡ empty_tree)
    → AreMatched words forest model
fresh_matched words forest model told fresh none faithful empty = record {
  told = told;
  alike = record {
    tree = λ collection small. empty collection small ∙ sym (fresh.empty collection small);
    denies = λ collection path small. ap (λ denied. is_denied denied collection path) none ∙ sym (fresh.open_to_all collection path small);
    first = fresh.faithful;
    second = faithful;
  };
}
