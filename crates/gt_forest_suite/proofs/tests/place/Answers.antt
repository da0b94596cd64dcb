use Rattle.gt_forest.specs.Calls.{StagePlaceAnswer}
use Rattle.gt_forest.specs.Words.{OnTold}
use Rattle.gt_forest_suite.proofs.TrialLemmas.{lasts}
use Rattle.gt_forest_suite.proofs.tests.place.Goals as goal
use Rattle.std.proofs.Common.{subst}

pub returns : goal.returns
returns g c =
    let words = g.F.Forest.words in
    let placed = subst (λ mtime. OnTold words c.stage_append.new.self c.stage_place.new.self (StagePlaceAnswer 0 1 c.args.path.now mtime c.stage_place.result)) c.zero.ensures c.stage_place.ensures.told in
    lasts words c.args.forest.now c.stage_open.new.self c.stage_append.new.self c.stage_place.new.self c.args.path.now c.args.bytes.now c.stage_place.result c.in_ok-stage_open.ensures.told c.stage_open.ensures.same.told c.in_ok-stage_append.ensures.told c.stage_append.ensures.same.told placed c.stage_place.ensures.images
