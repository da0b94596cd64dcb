use Rattle.gt_forest_suite.proofs.TrialLemmas.{fresh_matched}
use Rattle.gt_forest_suite.proofs.suite.forest_suite.Goals as goal
use Rattle.std.proofs.Common.{ap, length, ◌==◌, ◌∙◌}

pub returns-clause-fault : goal.returns-clause-fault
returns-clause-fault g c told fresh =
    let made = c.in_ok-model.ensures in
    c.try_all.ensures.fault (fresh_matched g.F.Forest.words c.args.forest.now c.in_ok-model.model told fresh (made.ok.denied ∙ c.new-nothing.ensures.items) (made.faithful ∙ ap (λ all. length all == 0) c.new-2.ensures.items) made.empty)
