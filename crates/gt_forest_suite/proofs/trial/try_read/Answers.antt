-- Where both are alike the answers are the same, and both stay alike.
use Rattle.gt_forest.specs.Calls.{ReadCall}
use Rattle.gt_forest_suite.proofs.TrialLemmas.{asked, mapped, on_ok}
use Rattle.gt_forest_suite.proofs.trial.try_read.Goals as goal
use Rattle.std.proofs.Common.{ap, refl, sym, ◌∙◌}
use Rattle.std.specs.Result.{result_map_both}

pub returns-clause-fault : goal.returns-clause-fault
returns-clause-fault g c matched =
    let all = result_map_both (λ all. all.items) (λ fault. fault) in
    let both = asked g.F.Forest.words c.args.forest.now c.read_bytes.new.forest c.args.model.now c.read_bytes-2.new.forest c.trees_decide_answers.ensures c.read_bytes.ensures.same.told matched (ReadCall c.args.collection c.args.path.now c.args.at c.args.room) (all c.read_bytes.result) (all c.read_bytes-2.result) c.requires.few (mapped (λ all. all.items) c.read_bytes.result c.in_ok-found.ensures.ok.1) (mapped (λ all. all.items) c.read_bytes-2.result c.in_ok-expected.ensures.ok.1) c.read_bytes.ensures.told (c.read_bytes-2.ensures.told refl) in
    c.verdict.ensures.fault (c.is_same_list.ensures (ap all c.in_ok-expected.ensures.ok.0 ∙ both.0 ∙ sym (ap all c.in_ok-found.ensures.ok.0)))

pub returns-clause-ok : goal.returns-clause-ok
returns-clause-ok g c = on_ok c.verdict.result (λ matched.
    let all = result_map_both (λ all. all.items) (λ fault. fault) in
    let both = asked g.F.Forest.words c.args.forest.now c.read_bytes.new.forest c.args.model.now c.read_bytes-2.new.forest c.trees_decide_answers.ensures c.read_bytes.ensures.same.told matched (ReadCall c.args.collection c.args.path.now c.args.at c.args.room) (all c.read_bytes.result) (all c.read_bytes-2.result) c.requires.few (mapped (λ all. all.items) c.read_bytes.result c.in_ok-found.ensures.ok.1) (mapped (λ all. all.items) c.read_bytes-2.result c.in_ok-expected.ensures.ok.1) c.read_bytes.ensures.told (c.read_bytes-2.ensures.told refl) in
    both.1)
