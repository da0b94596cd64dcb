use Rattle.gt_forest.proofs.CallLemmas.{keeps_put}
use Rattle.gt_forest.proofs.TreeLemmas.{put_whole}
use Rattle.gt_forest.proofs.tree.MemTree.remove_file.Goals as goal
use Rattle.gt_forest.specs.Rows.{KeepsOthers, folder_rows, held_at, stage_rows, tree_of}
use Rattle.gt_forest.specs.Tree.{is_folder}
use Rattle.gt_paths.specs.Path.{child_path}
use Rattle.std.proofs.Common.{None, Some, false, refl, rules, subst, sym, ◌≡◌}

pub invariant_of-self : goal.invariant_of-self
invariant_of-self c =
    let m = c.self.inside in
    let is : c.args.path.now ≡ child_path c.in-Some.folder.now c.in-Some.name.now = search rules in
    let file : is_folder (held_at c.args.self.now.root c.args.self.now.folders c.args.path.now) ≡ false = search rules in
    let was = subst (λ v. is_folder (held_at v.root v.folders c.args.path.now) ≡ false) (sym c.self.view_is) file in
    put_whole m.root c.in-Some.folder.now c.in-Some.name.now None (folder_rows m.folders) (folder_rows c.take_entry.new.folders) c.take_entry.ensures refl
    (subst (λ p. is_folder (held_at m.root (folder_rows m.folders) p) ≡ false) is was) c.self.invariant

pub returns-in-Some-clause-others : goal.returns-in-Some-clause-others
returns-in-Some-clause-others c =
    let m = c.self.inside in
    let is : c.args.path.now ≡ child_path c.in-Some.folder.now c.in-Some.name.now = search rules in
    subst (λ v. KeepsOthers (Some c.args.path.now) None (tree_of v) (tree_of (record { root = m.root; folders = folder_rows c.take_entry.new.folders; stages = stage_rows m.stages }))) c.self.view_is
    (keeps_put m.root (stage_rows m.stages) c.args.path.now c.in-Some.folder.now c.in-Some.name.now None (folder_rows m.folders) (folder_rows c.take_entry.new.folders) is c.take_entry.ensures)
