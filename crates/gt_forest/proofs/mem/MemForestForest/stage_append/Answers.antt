use Rattle.gt_causes.specs.Counts.{counted}
use Rattle.gt_forest.proofs.ForestLemmas.{appended, is, not_corrupt, on_ok_map, stored_is, told_by, was}
use Rattle.gt_forest.proofs.mem.MemForestForest.stage_append.Goals as goal
use Rattle.gt_forest.specs.Calls.{StageAppendAnswer}
use Rattle.gt_forest.specs.MemState.{IsStored, forest_trees}
use Rattle.gt_forest.specs.Rows.{stored}
use Rattle.gt_forest.specs.Tree.{Tree, stage_at}
use Rattle.std.proofs.Common.{Contains, IsTrue, OnOk, ap, length, not, option_map, rules, slice_set, subst, sym, ◌++◌, ◌<◌, ◌==◌, ◌∙◌, ◌≡◌}

pub returns-clause-stored : goal.returns-clause-stored
returns-clause-stored c =
    let m = c.self.inside in
    let inside = subst (λ v. c.args.collection < length v.trees) (sym c.self.view_is) c.requires in
    let number : c.saturating_add-self-inside.result ≡ counted m.appends = search rules in
    let trees = told_by m.trees.items m.denied.items m.corrupt in
    let later = told_by (slice_set m.trees.items c.args.collection c.append.new.self) m.denied.items m.corrupt in
    let now = ap (λ (t : Tree). t.stages c.args.key) (is m.trees.items m.denied.items m.corrupt c.args.collection c.index_mut.result.now c.append.new.self inside c.index_mut.ensures.value) in
    let before = ap (λ (t : Tree). t.stages c.args.key) (was m.trees.items m.denied.items m.corrupt c.args.collection c.index_mut.result.now c.append.new.self inside c.index_mut.ensures.value) in
    subst (λ v. OnOk c.append.result (IsStored v c.args.bytes.now (stage_at (forest_trees v) c.args.collection c.args.key) (stage_at later c.args.collection c.args.key))) c.self.view_is
    (on_ok_map c.append.result
    (λ done.
    let same = stored_is (Contains m.corrupt (counted m.appends)) c.args.bytes.now (stage_at trees c.args.collection c.args.key) (stage_at later c.args.collection c.args.key) c.has-is_corrupt.result
    (λ is_corrupt. subst (Contains m.corrupt) number (c.has-is_corrupt.ensures.0 is_corrupt))
    (λ listed. c.has-is_corrupt.ensures.1 (subst (Contains m.corrupt) (sym number) listed))
    (now ∙ done ∙ ap (option_map (λ stage. stage ++ stored c.has-is_corrupt.result c.args.bytes.now)) (sym before)) in
    record { listed = same.0; others = same.1 })
    c.append.ensures.stored)

pub returns-clause-told : goal.returns-clause-told
returns-clause-told c =
    let m = c.self.inside in
    let inside = subst (λ v. c.args.collection < length v.trees) (sym c.self.view_is) c.requires in
    let faithful : IsTrue (length m.corrupt == 0) → IsTrue (not c.has-is_corrupt.result) = not_corrupt m.corrupt c.saturating_add-self-inside.result c.has-is_corrupt.result c.has-is_corrupt.ensures.0 in
    subst (λ v. StageAppendAnswer c.args.collection c.args.key c.args.bytes.now c.append.result (forest_trees v) (told_by (slice_set m.trees.items c.args.collection c.append.new.self) m.denied.items m.corrupt)) c.self.view_is
    (appended m.trees.items m.denied.items m.corrupt c.args.collection c.index_mut.result.now c.append.new.self inside c.index_mut.ensures.value c.args.key c.args.bytes.now (not c.has-is_corrupt.result) c.append.result faithful
    c.append.ensures.answer c.append.ensures.others)
