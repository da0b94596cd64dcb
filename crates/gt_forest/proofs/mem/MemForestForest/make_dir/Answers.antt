use Rattle.gt_forest.proofs.ForestLemmas.{denied_is, made_in, told_by}
use Rattle.gt_forest.proofs.mem.MemForestForest.make_dir.Goals as goal
use Rattle.gt_forest.specs.Calls.{MakeDirAnswer}
use Rattle.gt_forest.specs.MemState.{forest_trees}
use Rattle.std.proofs.Common.{length, slice_set, subst, sym, ◌<◌}

pub returns-clause-told : goal.returns-clause-told
returns-clause-told c =
    let m = c.self.inside in
    let inside = subst (λ v. c.args.collection < length v.trees) (sym c.self.view_is) c.requires in
    subst (λ v. MakeDirAnswer c.args.collection c.args.path.now c.make.result (forest_trees v) (told_by (slice_set m.trees.items c.args.collection c.make.new.self) m.denied.items m.corrupt)) c.self.view_is
    (made_in m.trees.items m.denied.items m.corrupt c.args.collection c.index_mut.result.now c.make.new.self inside c.index_mut.ensures.value c.args.path.now c.is_denied-denied.result c.make.result (denied_is c.args.collection c.args.path.now c.deref.result.now m.denied.items c.is_denied-denied.result c.is_denied-denied.ensures c.deref.ensures.value) c.make.ensures.answer c.make.ensures.others)
