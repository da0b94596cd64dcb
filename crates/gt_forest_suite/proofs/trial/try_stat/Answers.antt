-- Where both are alike the answers are the same, and both stay alike.
use Rattle.gt_forest.specs.Calls.{StatCall}
use Rattle.gt_forest_suite.proofs.TrialLemmas.{asked, on_ok}
use Rattle.gt_forest_suite.proofs.trial.try_stat.Goals as goal
use Rattle.std.proofs.Common.{sym, ◌∙◌}

pub returns-clause-fault : goal.returns-clause-fault
returns-clause-fault g c matched =
    let both = asked g.F.Forest.words c.args.forest.now c.stat.new.self c.args.model.now c.stat-2.new.self c.trees_decide_answers.ensures c.stat.ensures.same.told matched (StatCall c.args.collection c.args.path.now) c.stat.result c.stat-2.result c.requires.few c.in_ok-found.ensures.ok.1 c.in_ok-expected.ensures.ok.1 c.stat.ensures.told c.stat-2.ensures.told in
    c.verdict.ensures.fault (c.is_same_stat.ensures (c.in_ok-expected.ensures.ok.0 ∙ both.0 ∙ sym c.in_ok-found.ensures.ok.0))

pub returns-clause-ok : goal.returns-clause-ok
returns-clause-ok g c = on_ok c.verdict.result (λ matched.
    let both = asked g.F.Forest.words c.args.forest.now c.stat.new.self c.args.model.now c.stat-2.new.self c.trees_decide_answers.ensures c.stat.ensures.same.told matched (StatCall c.args.collection c.args.path.now) c.stat.result c.stat-2.result c.requires.few c.in_ok-found.ensures.ok.1 c.in_ok-expected.ensures.ok.1 c.stat.ensures.told c.stat-2.ensures.told in
    both.1)
