use Rattle.gt_forest.proofs.ForestLemmas.{dropped, told_by}
use Rattle.gt_forest.proofs.mem.MemForestForest.stage_drop.Goals as goal
use Rattle.gt_forest.specs.Calls.{StageDropAnswer}
use Rattle.gt_forest.specs.MemState.{forest_trees}
use Rattle.std.proofs.Common.{length, slice_set, subst, sym, ◌<◌}

pub returns-clause-told : goal.returns-clause-told
returns-clause-told c =
    let m = c.self.inside in
    let inside = subst (λ v. c.args.collection < length v.trees) (sym c.self.view_is) c.requires in
    subst (λ v. StageDropAnswer c.args.collection c.args.key c.drop_stage.result (forest_trees v) (told_by (slice_set m.trees.items c.args.collection c.drop_stage.new.self) m.denied.items m.corrupt)) c.self.view_is
    (dropped m.trees.items m.denied.items m.corrupt c.args.collection c.index_mut.result.now c.drop_stage.new.self inside c.index_mut.ensures.value c.args.key c.drop_stage.result c.drop_stage.ensures.answer c.drop_stage.ensures.others)
