use Rattle.gt_forest.proofs.ForestLemmas.{opened, told_by}
use Rattle.gt_forest.proofs.mem.MemForestForest.stage_open.Goals as goal
use Rattle.gt_forest.specs.Calls.{StageOpenAnswer}
use Rattle.gt_forest.specs.MemState.{forest_trees}
use Rattle.std.proofs.Common.{length, slice_set, subst, sym, ◌<◌}

pub returns-clause-told : goal.returns-clause-told
returns-clause-told c =
    let m = c.self.inside in
    let inside = subst (λ v. c.args.collection < length v.trees) (sym c.self.view_is) c.requires in
    subst (λ v. StageOpenAnswer c.args.collection c.args.key c.open.result (forest_trees v) (told_by (slice_set m.trees.items c.args.collection c.open.new.self) m.denied.items m.corrupt)) c.self.view_is
    (opened m.trees.items m.denied.items m.corrupt c.args.collection c.index_mut.result.now c.open.new.self inside c.index_mut.ensures.value c.args.key c.open.result c.open.ensures.answer c.open.ensures.others)
