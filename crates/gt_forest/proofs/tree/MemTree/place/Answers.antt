use Rattle.gt_forest.proofs.CallLemmas.{file_only, keeps_placed, made_of, placed, same_rows}
use Rattle.gt_forest.proofs.TreeLemmas.{keeps_all, put_whole, same_whole}
use Rattle.gt_forest.proofs.tree.MemTree.place.Goals as goal
use Rattle.gt_forest.specs.Calls.{IsPlaced, Places}
use Rattle.gt_forest.specs.Rows.{KeepsOthers, Stages, folder_rows, held_at, stage_rows, staged_at, tree_of}
use Rattle.gt_forest.specs.Tree.{is_folder}
use Rattle.gt_forest.specs.declared.fault.TreeFault.TheVariants.{OutOfMemory}
use Rattle.gt_forest.specs.declared.node.Node.TheVariants.{File}
use Rattle.gt_paths.specs.Path.{child_path}
use Rattle.std.proofs.Common.{Err, IsSome, Some, ap, false, option_map, rules, subst, sym, ◌∙◌, ◌≡◌}

pub invariant_of-self : goal.invariant_of-self
invariant_of-self c =
    let m = c.self.inside in
    same_whole m.root (folder_rows m.folders) (folder_rows c.place_stage.new.folders) c.in_err-place_stage.ensures.err c.self.invariant

pub returns-in_err-place_stage-clause-answer : goal.returns-in_err-place_stage-clause-answer
returns-in_err-place_stage-clause-answer c =
    let m = c.self.inside in
    let new = tree_of (record { root = m.root; folders = folder_rows c.place_stage.new.folders; stages = stage_rows c.place_stage.new.stages }) in
    let is : c.from_residual.result ≡ Err OutOfMemory = search rules in
    let kept = ap (λ (s : Stages). made_of m.root (folder_rows c.place_stage.new.folders) s) c.in_err-place_stage.ensures.kept in
    let same = subst (λ v. new ≡ tree_of v) c.self.view_is (kept ∙ same_rows m.root (folder_rows m.folders) (folder_rows c.place_stage.new.folders) (stage_rows m.stages) c.in_err-place_stage.ensures.err) in
    subst (λ r. Places c.args.denied (tree_of c.args.self.now) c.args.key c.args.path.now c.args.mtime new (new ≡ tree_of c.args.self.now) r) (sym is) (tt, same)

pub returns-in_err-place_stage-clause-others : goal.returns-in_err-place_stage-clause-others
returns-in_err-place_stage-clause-others c =
    let m = c.self.inside in
    let new = tree_of (record { root = m.root; folders = folder_rows c.place_stage.new.folders; stages = stage_rows c.place_stage.new.stages }) in
    let kept = ap (λ (s : Stages). made_of m.root (folder_rows c.place_stage.new.folders) s) c.in_err-place_stage.ensures.kept in
    keeps_all (Some c.args.path.now) (Some c.args.key) (tree_of c.args.self.now) new
    (subst (λ v. new ≡ tree_of v) c.self.view_is (kept ∙ same_rows m.root (folder_rows m.folders) (folder_rows c.place_stage.new.folders) (stage_rows m.stages) c.in_err-place_stage.ensures.err))

pub invariant_of-self-2 : goal.invariant_of-self-2
invariant_of-self-2 c =
    let m = c.self.inside in
    let is : c.args.path.now ≡ child_path c.in-Some.folder.now c.in-Some.name.now = search rules in
    let file : is_folder (held_at c.args.self.now.root c.args.self.now.folders c.args.path.now) ≡ false = search rules in
    let was = subst (λ v. is_folder (held_at v.root v.folders c.args.path.now) ≡ false) (sym c.self.view_is) file in
    put_whole m.root c.in-Some.folder.now c.in-Some.name.now (option_map (λ bytes. File bytes c.args.mtime) (staged_at (stage_rows m.stages) c.args.key)) (folder_rows m.folders) (folder_rows c.place_stage.new.folders)
    c.in_ok-place_stage.ensures.file (file_only c.args.mtime (staged_at (stage_rows m.stages) c.args.key))
    (subst (λ p. is_folder (held_at m.root (folder_rows m.folders) p) ≡ false) is was) c.self.invariant

pub returns-clause-answer : goal.returns-clause-answer
returns-clause-answer c =
    let m = c.self.inside in
    let is : c.args.path.now ≡ child_path c.in-Some.folder.now c.in-Some.name.now = search rules in
    let there : IsSome (staged_at (stage_rows m.stages) c.args.key) = search rules in
    let new = tree_of (record { root = m.root; folders = folder_rows c.place_stage.new.folders; stages = stage_rows c.place_stage.new.stages }) in
    let done = placed m.root (folder_rows m.folders) (folder_rows c.place_stage.new.folders) (stage_rows m.stages) (stage_rows c.place_stage.new.stages) c.args.key c.args.path.now c.in-Some.folder.now c.in-Some.name.now c.args.mtime is there
    c.in_ok-place_stage.ensures.file c.in_ok-place_stage.ensures.gone in (
      record { denied = search rules; absent = search rules; kind = search rules; empty = λ full. full },
      subst (λ v. IsPlaced (tree_of v) c.args.key c.args.path.now c.args.mtime new) c.self.view_is done,
    )

pub returns-clause-others : goal.returns-clause-others
returns-clause-others c =
    let m = c.self.inside in
    let is : c.args.path.now ≡ child_path c.in-Some.folder.now c.in-Some.name.now = search rules in
    subst (λ v. KeepsOthers (Some c.args.path.now) (Some c.args.key) (tree_of v) (tree_of (record { root = m.root; folders = folder_rows c.place_stage.new.folders; stages = stage_rows c.place_stage.new.stages }))) c.self.view_is
    (keeps_placed m.root c.args.path.now c.args.key c.in-Some.folder.now c.in-Some.name.now (option_map (λ bytes. File bytes c.args.mtime) (staged_at (stage_rows m.stages) c.args.key)) (folder_rows m.folders) (folder_rows c.place_stage.new.folders)
    (stage_rows m.stages) (stage_rows c.place_stage.new.stages) is c.in_ok-place_stage.ensures.file c.in_ok-place_stage.ensures.gone)
