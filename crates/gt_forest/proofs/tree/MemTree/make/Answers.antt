use Rattle.gt_forest.proofs.CallLemmas.{keeps_changed, same_rows}
use Rattle.gt_forest.proofs.TreeLemmas.{changed_whole, keeps_all, same_whole}
use Rattle.gt_forest.proofs.tree.MemTree.make.Goals as goal
use Rattle.gt_forest.specs.Calls.{Makes}
use Rattle.gt_forest.specs.Rows.{KeepsOthers, contents_of, entry_of, folder_rows, stage_rows, tree_of}
use Rattle.gt_forest.specs.declared.fault.TreeFault.TheVariants.{OutOfMemory}
use Rattle.gt_forest.specs.declared.node.Node.TheVariants.{Folder}
use Rattle.gt_paths.specs.Path.{child_path}
use Rattle.std.proofs.Common.{Err, None, Some, [], ap, option_and_then, refl, rules, subst, sym, ◌≡◌}

pub invariant_of-self : goal.invariant_of-self
invariant_of-self c =
    let m = c.self.inside in
    same_whole m.root (folder_rows m.folders) (folder_rows c.make_folder.new.folders) c.in_err-make_folder.ensures.err c.self.invariant

pub returns-in_err-make_folder-clause-answer : goal.returns-in_err-make_folder-clause-answer
returns-in_err-make_folder-clause-answer c =
    let m = c.self.inside in
    let new = tree_of (record { root = m.root; folders = folder_rows c.make_folder.new.folders; stages = stage_rows m.stages }) in
    let is : c.from_residual.result ≡ Err OutOfMemory = search rules in
    let same = subst (λ v. new ≡ tree_of v) c.self.view_is (same_rows m.root (folder_rows m.folders) (folder_rows c.make_folder.new.folders) (stage_rows m.stages) c.in_err-make_folder.ensures.err) in
    subst (λ r. Makes c.args.denied (tree_of c.args.self.now) c.args.path.now new (new ≡ tree_of c.args.self.now) r) (sym is) (tt, same)

pub returns-in_err-make_folder-clause-others : goal.returns-in_err-make_folder-clause-others
returns-in_err-make_folder-clause-others c =
    let m = c.self.inside in
    let new = tree_of (record { root = m.root; folders = folder_rows c.make_folder.new.folders; stages = stage_rows m.stages }) in
    keeps_all (Some c.args.path.now) None (tree_of c.args.self.now) new
    (subst (λ v. new ≡ tree_of v) c.self.view_is (same_rows m.root (folder_rows m.folders) (folder_rows c.make_folder.new.folders) (stage_rows m.stages) c.in_err-make_folder.ensures.err))

pub invariant_of-self-2 : goal.invariant_of-self-2
invariant_of-self-2 c =
    let m = c.self.inside in
    let is : c.args.path.now ≡ child_path c.in-Some.folder.now c.in-Some.name.now = search rules in
    let none : contents_of (folder_rows m.folders) c.args.path.now ≡ None = search rules in
    changed_whole m.root c.args.path.now (Some []) c.in-Some.folder.now c.in-Some.name.now (Some (Folder 0)) (folder_rows m.folders) (folder_rows c.make_folder.new.folders)
    (search rules) is (λ n. ap (option_and_then (λ e. entry_of e n)) none) (λ n. refl) refl c.self.invariant

pub returns-clause-others : goal.returns-clause-others
returns-clause-others c =
    let m = c.self.inside in
    let is : c.args.path.now ≡ child_path c.in-Some.folder.now c.in-Some.name.now = search rules in
    let none : contents_of (folder_rows m.folders) c.args.path.now ≡ None = search rules in
    subst (λ v. KeepsOthers (Some c.args.path.now) None (tree_of v) (tree_of (record { root = m.root; folders = folder_rows c.make_folder.new.folders; stages = stage_rows m.stages }))) c.self.view_is
    (keeps_changed m.root (stage_rows m.stages) c.args.path.now (Some []) c.in-Some.folder.now c.in-Some.name.now (Some (Folder 0)) (folder_rows m.folders) (folder_rows c.make_folder.new.folders)
    (search rules) is (λ n. ap (option_and_then (λ e. entry_of e n)) none) (λ n. refl))
