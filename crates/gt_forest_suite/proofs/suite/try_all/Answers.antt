use Rattle.gt_forest_suite.proofs.TrialLemmas.{then_same, unchanged}
use Rattle.gt_forest_suite.proofs.suite.try_all.Goals as goal
use Rattle.std.proofs.Common.{refl, ◌∙◌}

pub loop-side-init : goal.loop-side-init
loop-side-init g c = record { same = unchanged g.F.Forest.words c.args.forest.now; many = refl; matched = λ matched. matched }

pub loop-side-preserved : goal.loop-side-preserved
loop-side-preserved g c = record {
  same = then_same g.F.Forest.words c.loop-side.invariant.same c.try_call.ensures.same.0;
  many = c.try_call.ensures.same.1 ∙ c.loop-side.invariant.many;
  matched = λ matched. c.in_ok-try_call.ensures.ok (c.loop-side.invariant.matched matched);
}
