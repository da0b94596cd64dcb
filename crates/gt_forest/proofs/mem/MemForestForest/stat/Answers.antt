use Rattle.gt_forest.proofs.ForestLemmas.{denied_is, told_by, tree_at}
use Rattle.gt_forest.proofs.mem.MemForestForest.stat.Goals as goal
use Rattle.gt_forest.specs.Calls.{StatAnswer, Stats}
use Rattle.gt_forest.specs.MemState.{forest_trees}
use Rattle.std.proofs.Common.{length, refl, subst, sym, ◌<◌}

pub returns-clause-told : goal.returns-clause-told
returns-clause-told c =
    let m = c.self.inside in
    let inside = subst (λ v. c.args.collection < length v.trees) (sym c.self.view_is) c.requires in
    let before = told_by m.trees.items m.denied.items m.corrupt in
    let answer = c.stat.result in
    let at = tree_at m.trees.items c.args.collection c.index.result.now inside c.index.ensures in
    subst (λ v. StatAnswer c.args.collection c.args.path.now answer (forest_trees v) before) c.self.view_is
    (record {
      answers = subst (λ b. Stats b (before.tree c.args.collection) c.args.path.now answer) (denied_is c.args.collection c.args.path.now c.deref.result.now m.denied.items c.is_denied-denied.result c.is_denied-denied.ensures c.deref.ensures.value) (subst (λ t. Stats c.is_denied-denied.result t c.args.path.now answer) (sym at) c.stat.ensures.answer);
      same = refl;
    })
