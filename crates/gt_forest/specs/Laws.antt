-- What follows from the relations of the calls, whatever the forest.
use Rattle.std.specs.Prelude.{IsTrue, Result, ℕ, ◌<◌, ◌≡◌}
use Rattle.gt_forest.specs.Calls.{AreAlike, Call, Given, IsAnswered, collection_of, is_decided}
use Rattle.gt_forest.specs.Tree.{AreTrees, Trees}
use Rattle.gt_forest.specs.declared.fault.TreeFault.{TreeFault}

-- a call that is answered leaves trees where trees were
abbrev pub CallsKeepTrees : Type 0
CallsKeepTrees = (call : Call) (answer : Result (Given call) TreeFault) (before after : Trees) → IsAnswered call answer before after → AreTrees before → AreTrees after

-- on trees that are alike a call has one answer, where the trees decide it, and leaves trees that are alike
abbrev pub TreesDecideAnswers : Type 0
TreesDecideAnswers = (count : ℕ) (call : Call) (a b : Result (Given call) TreeFault) (before after other later : Trees)
    → collection_of call < count → AreAlike count before other → IsTrue (is_decided a) → IsTrue (is_decided b)
    → IsAnswered call a before after → IsAnswered call b other later → (b ≡ a) × AreAlike count after later
