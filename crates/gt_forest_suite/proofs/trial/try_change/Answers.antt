-- Where both are alike the answers are the same, and both stay alike.
use Rattle.gt_forest_suite.proofs.TrialLemmas.{changed, on_ok}
use Rattle.gt_forest_suite.proofs.trial.try_change.Goals as goal
use Rattle.std.proofs.Common.{refl, sym, ◌∙◌}

pub returns-clause-fault : goal.returns-clause-fault
returns-clause-fault g c matched =
    let both = changed g.F.Forest.words c.args.forest.now c.make_change.new.forest c.args.model.now c.make_change-2.new.forest c.trees_decide_answers.ensures c.make_change.ensures.same.told matched c.args.collection c.args.change.now c.make_change.result c.make_change-2.result c.requires.few c.in_ok-found.ensures.ok.1 c.in_ok-expected.ensures.ok.1 c.make_change.ensures.told (c.make_change-2.ensures.told refl) in
    c.verdict.ensures.fault (c.is_same_done.ensures (c.in_ok-expected.ensures.ok.0 ∙ both.0 ∙ sym c.in_ok-found.ensures.ok.0))

pub returns-clause-ok : goal.returns-clause-ok
returns-clause-ok g c = on_ok c.verdict.result (λ matched.
    let both = changed g.F.Forest.words c.args.forest.now c.make_change.new.forest c.args.model.now c.make_change-2.new.forest c.trees_decide_answers.ensures c.make_change.ensures.same.told matched c.args.collection c.args.change.now c.make_change.result c.make_change-2.result c.requires.few c.in_ok-found.ensures.ok.1 c.in_ok-expected.ensures.ok.1 c.make_change.ensures.told (c.make_change-2.ensures.told refl) in
    both.1)
