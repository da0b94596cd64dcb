use Rattle.gt_forest.proofs.ForestLemmas.{denied_is, told_by, tree_at}
use Rattle.gt_forest.proofs.mem.MemForestForest.list.Goals as goal
use Rattle.gt_forest.specs.Calls.{ListAnswer, Lists}
use Rattle.gt_forest.specs.MemState.{forest_trees}
use Rattle.std.proofs.Common.{length, option_copied, refl, subst, sym, ◌<◌}
use Rattle.std.specs.Result.{result_map_both}

pub returns-clause-told : goal.returns-clause-told
returns-clause-told c =
    let m = c.self.inside in
    let inside = subst (λ v. c.args.collection < length v.trees) (sym c.self.view_is) c.requires in
    let before = told_by m.trees.items m.denied.items m.corrupt in
    let answer = result_map_both (λ entries. entries.items) (λ fault. fault) c.list.result in
    let at = tree_at m.trees.items c.args.collection c.index.result.now inside c.index.ensures in
    subst (λ v. ListAnswer c.args.collection c.args.path.now (option_copied c.args.after) c.args.limit answer (forest_trees v) before) c.self.view_is
    (record {
      answers = subst (λ b. Lists b (before.tree c.args.collection) c.args.path.now (option_copied c.args.after) c.args.limit answer) (denied_is c.args.collection c.args.path.now c.deref.result.now m.denied.items c.is_denied-denied.result c.is_denied-denied.ensures c.deref.ensures.value) (subst (λ t. Lists c.is_denied-denied.result t c.args.path.now (option_copied c.args.after) c.args.limit answer) (sym at) c.list.ensures.answer);
      same = refl;
    })
