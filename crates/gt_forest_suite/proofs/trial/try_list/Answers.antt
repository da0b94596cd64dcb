-- Where both are alike the answers are the same, and both stay alike.
use Rattle.gt_forest.specs.Calls.{ListCall}
use Rattle.gt_forest_suite.proofs.TrialLemmas.{asked, mapped, on_ok}
use Rattle.gt_forest_suite.proofs.trial.try_list.Goals as goal
use Rattle.std.proofs.Common.{ap, option_copied, sym, ◌∙◌}
use Rattle.std.specs.Result.{result_map_both}

pub returns-clause-fault : goal.returns-clause-fault
returns-clause-fault g c matched =
    let all = result_map_both (λ all. all.items) (λ fault. fault) in
    let both = asked g.F.Forest.words c.args.forest.now c.list.new.self c.args.model.now c.list-2.new.self c.trees_decide_answers.ensures c.list.ensures.same.told matched (ListCall c.args.collection c.args.path.now (option_copied c.args.after) c.args.limit) (all c.list.result) (all c.list-2.result) c.requires.few (mapped (λ all. all.items) c.list.result c.in_ok-found.ensures.ok.1) (mapped (λ all. all.items) c.list-2.result c.in_ok-expected.ensures.ok.1) c.list.ensures.told c.list-2.ensures.told in
    c.verdict.ensures.fault (c.is_same_list.ensures (ap all c.in_ok-expected.ensures.ok.0 ∙ both.0 ∙ sym (ap all c.in_ok-found.ensures.ok.0)))

pub returns-clause-ok : goal.returns-clause-ok
returns-clause-ok g c = on_ok c.verdict.result (λ matched.
    let all = result_map_both (λ all. all.items) (λ fault. fault) in
    let both = asked g.F.Forest.words c.args.forest.now c.list.new.self c.args.model.now c.list-2.new.self c.trees_decide_answers.ensures c.list.ensures.same.told matched (ListCall c.args.collection c.args.path.now (option_copied c.args.after) c.args.limit) (all c.list.result) (all c.list-2.result) c.requires.few (mapped (λ all. all.items) c.list.result c.in_ok-found.ensures.ok.1) (mapped (λ all. all.items) c.list-2.result c.in_ok-expected.ensures.ok.1) c.list.ensures.told c.list-2.ensures.told in
    both.1)
