use Rattle.gt_forest.proofs.CallLemmas.{folder_from, folder_is_no_file, folder_is_there, has_entry, keeps_changed, no_entries}
use Rattle.gt_forest.proofs.TreeLemmas.{changed_at, changed_whole, no_entry, not_root}
use Rattle.gt_forest.proofs.tree.MemTree.remove_dir.Goals as goal
use Rattle.gt_forest.specs.Answers.{IsAllowed}
use Rattle.gt_forest.specs.Calls.{folder_grounds}
use Rattle.gt_forest.specs.Rows.{KeepsOthers, contents_of, folder_rows, held_at, stage_rows, tree_of}
use Rattle.gt_forest.specs.Tree.{HasEntries, is_file}
use Rattle.gt_paths.specs.Path.{child_path}
use Rattle.std.proofs.Common.{None, Some, false, is_none, length, option_map, refl, rules, subst, true, ◌==◌, ◌≡◌}

pub returns-in-Some-false-clause-answer : goal.returns-in-Some-false-clause-answer
returns-in-Some-false-clause-answer c =
    let m = c.self.inside in
    let full : option_map (λ entries. length entries == 0) (contents_of (folder_rows m.folders) c.args.path.now) ≡ Some false = search rules in
    let folder = folder_from m.root (folder_rows m.folders) c.args.path.now false c.self.invariant full in
    let is_place : c.args.path.now ≡ child_path c.in-Some.folder.now c.in-Some.name.now = search rules in
    let denied = not_root c.args.path.now c.in-Some.folder.now c.in-Some.name.now c.args.denied is_place c.if-denied.false in (
      (
        denied,
        subst (λ v. is_none (held_at v.root v.folders c.args.path.now) ≡ false) c.self.view_is (folder_is_there _ folder),
        subst (λ v. is_file (held_at v.root v.folders c.args.path.now) ≡ false) c.self.view_is (folder_is_no_file _ folder),
        subst (λ v. HasEntries (tree_of v) c.args.path.now) c.self.view_is (has_entry m.root (folder_rows m.folders) (stage_rows m.stages) c.args.path.now full),
      ),
      refl,
    )

pub invariant_of-self : goal.invariant_of-self
invariant_of-self c =
    let m = c.self.inside in
    let is : c.args.path.now ≡ child_path c.in-Some.folder.now c.in-Some.name.now = search rules in
    let empty : option_map (λ entries. length entries == 0) (contents_of (folder_rows m.folders) c.args.path.now) ≡ Some true = search rules in
    changed_whole m.root c.args.path.now None c.in-Some.folder.now c.in-Some.name.now None (folder_rows m.folders) (folder_rows c.remove_folder.new.folders)
    (search rules) is (no_entry (folder_rows m.folders) c.args.path.now empty) (λ n. refl) refl c.self.invariant

pub returns-clause-others : goal.returns-clause-others
returns-clause-others c =
    let m = c.self.inside in
    let is : c.args.path.now ≡ child_path c.in-Some.folder.now c.in-Some.name.now = search rules in
    let empty : option_map (λ entries. length entries == 0) (contents_of (folder_rows m.folders) c.args.path.now) ≡ Some true = search rules in
    subst (λ v. KeepsOthers (Some c.args.path.now) None (tree_of v) (tree_of (record { root = m.root; folders = folder_rows c.remove_folder.new.folders; stages = stage_rows m.stages }))) c.self.view_is
    (keeps_changed m.root (stage_rows m.stages) c.args.path.now None c.in-Some.folder.now c.in-Some.name.now None (folder_rows m.folders) (folder_rows c.remove_folder.new.folders)
    (search rules) is (no_entry (folder_rows m.folders) c.args.path.now empty) (λ n. refl))

pub returns-clause-answer : goal.returns-clause-answer
returns-clause-answer c =
    let m = c.self.inside in
    let is : c.args.path.now ≡ child_path c.in-Some.folder.now c.in-Some.name.now = search rules in
    let empty : option_map (λ entries. length entries == 0) (contents_of (folder_rows m.folders) c.args.path.now) ≡ Some true = search rules in
    let none = no_entry (folder_rows m.folders) c.args.path.now empty in
    let folder = folder_from m.root (folder_rows m.folders) c.args.path.now true c.self.invariant empty in
    let is_place : c.args.path.now ≡ child_path c.in-Some.folder.now c.in-Some.name.now = search rules in
    let denied = not_root c.args.path.now c.in-Some.folder.now c.in-Some.name.now c.args.denied is_place c.if-denied.false in (
      subst (λ v. IsAllowed (folder_grounds c.args.denied (tree_of v) c.args.path.now)) c.self.view_is
          (record { denied = denied; absent = folder_is_there _ folder; kind = folder_is_no_file _ folder; empty = no_entries m.root (folder_rows m.folders) (stage_rows m.stages) c.args.path.now none }),
      changed_at m.root c.args.path.now None c.in-Some.folder.now c.in-Some.name.now None (folder_rows m.folders) (folder_rows c.remove_folder.new.folders) (search rules) is none (λ n. refl),
    )
