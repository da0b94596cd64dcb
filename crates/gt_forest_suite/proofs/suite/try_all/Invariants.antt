use Rattle.gt_forest.specs.Words.{IsSameForest}
use Rattle.gt_forest_suite.proofs.suite.try_all.Given as goal
use Rattle.gt_forest_suite.specs.Suite.{AreMatched}
use Rattle.std.proofs.Common.{length, ◌≡◌}

-- what was asked so far kept both, and left them alike
abbrev pub invariant-loop-side : goal.invariant-loop-side
invariant-loop-side g l = record {
  same : IsSameForest g.F.Forest.words l.fn.forest l.forest;
  many : length l.model.trees ≡ length l.fn.model.trees;
  matched : AreMatched g.F.Forest.words l.fn.forest l.fn.model → AreMatched g.F.Forest.words l.forest l.model;
}
