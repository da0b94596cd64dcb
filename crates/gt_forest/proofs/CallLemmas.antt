-- What the changes of a tree in memory are as changes of a tree.
use Rattle.gt_forest.proofs.MapLemmas.{not_there}
use Rattle.gt_forest.proofs.TreeLemmas.{changed_others, held-child, keeps_both, keeps_path, put_at, put_others, same_held, same_tree}
use Rattle.gt_forest.specs.Calls.{IsPlaced}
use Rattle.gt_forest.specs.Rows.{ChangesFolder, Contents, Folders, IsWhole, KeepsOthers, PutsEntry, PutsStage, SameFolders, Stages, contents_of, entry_at, entry_of, held_at, staged_at, tree_of}
use Rattle.gt_forest.specs.Tree.{HasEntries, Tree, is_file, is_folder}
use Rattle.gt_forest.specs.declared.node.Node.{Node}
use Rattle.gt_forest.specs.declared.node.Node.TheVariants.{File, Folder}
use Rattle.gt_paths.specs.Path.{PathValue, child_path}
use Rattle.std.proofs.Common.{Bool, IsSome, List, None, Option, Some, [], ap, cond, false, is_eq, is_none, is_some, length, option_and_then, option_map, refl, subst, sym, true, true≢false, ◌==◌, ◌∙◌, ◌∷◌, ◌≡◌, ℕ}
use Rattle.std.specs.Cmp.Lexicographic.{nat_list_cmp_total}
use Rattle.std.specs.Cmp.{tied_itself}
use Rattle.std.specs.Option.{option_map_or}

-- the tree of these rows
abbrev pub made_of : Node → Folders → Stages → Tree
made_of root folders stages = tree_of (record { root = root; folders = folders; stages = stages })

pub same_rows : (root : Node) (before after : Folders) (stages : Stages) → SameFolders before after → made_of root after stages ≡ made_of root before stages
same_rows root before after stages same = same_tree (made_of root after stages) (made_of root before stages) (same_held root before after same) (λ key. refl)

pub keeps_put : (root : Node) (stages : Stages) (path folder : PathValue) (name : List ℕ) (node : Option Node) (before after : Folders) → path ≡ child_path folder name
    → PutsEntry folder name node before after → KeepsOthers (Some path) None (made_of root before stages) (made_of root after stages)
keeps_put root stages path folder name node before after is puts =
    keeps_path path (made_of root before stages) (made_of root after stages) (λ p ne. put_others root folder name node before after puts p (λ same. ne (same ∙ sym is))) (λ key. refl)

pub keeps_placed : (root : Node) (path : PathValue) (key : ℕ) (folder : PathValue) (name : List ℕ) (node : Option Node) (before after : Folders) (stages later : Stages) → path ≡ child_path folder name
    → PutsEntry folder name node before after → PutsStage key None stages later → KeepsOthers (Some path) (Some key) (made_of root before stages) (made_of root after later)
keeps_placed root path key folder name node before after stages later is puts gone =
    keeps_both path key (made_of root before stages) (made_of root after later) (λ p ne. put_others root folder name node before after puts p (λ same. ne (same ∙ sym is))) gone.keys

pub keeps_changed : (root : Node) (stages : Stages) (path : PathValue) (contents : Option Contents) (parent : PathValue) (name : List ℕ) (node : Option Node) (before after : Folders)
    → ChangesFolder path contents parent name node before after → path ≡ child_path parent name → ((n : List ℕ) → entry_at before path n ≡ None) → ((n : List ℕ) → option_and_then (λ c. entry_of c n) contents ≡ None)
    → KeepsOthers (Some path) None (made_of root before stages) (made_of root after stages)
keeps_changed root stages path contents parent name node before after changes is was now =
    keeps_path path (made_of root before stages) (made_of root after stages) (changed_others root path contents parent name node before after changes is was now) (λ key. refl)

-- a staging file that is there is placed
pub placed : (root : Node) (before after : Folders) (stages later : Stages) (key : ℕ) (path folder : PathValue) (name : List ℕ) (mtime : ℕ) → path ≡ child_path folder name
    → IsSome (staged_at stages key) → PutsEntry folder name (option_map (λ bytes. File bytes mtime) (staged_at stages key)) before after → PutsStage key None stages later
    → IsPlaced (made_of root before stages) key path mtime (made_of root after later)
placed root before after stages later key path folder name mtime is there puts gone = at (staged_at stages key) refl there
  where
    at : (o : Option (List ℕ)) → staged_at stages key ≡ o → IsSome o → IsPlaced (made_of root before stages) key path mtime (made_of root after later)
    at None was some = absurd (true≢false (sym some))
    at (Some bytes) was some = record {
      bytes = bytes;
      was = was;
      is = ap (held_at root after) is ∙ put_at root folder name _ before after puts ∙ ap (option_map (λ b. File b mtime)) was;
      gone = gone.at;
    }

pub file_only : (mtime : ℕ) (o : Option (List ℕ)) → is_folder (option_map (λ bytes. File bytes mtime) o) ≡ false
file_only mtime None = refl
file_only mtime (Some bytes) = refl

-- ---- folders and what is in them

pub folder_is_there : (o : Option Node) → is_folder o ≡ true → is_none o ≡ false
folder_is_there None is = absurd (true≢false (sym is))
folder_is_there (Some (File bytes mtime)) is = refl
folder_is_there (Some (Folder mtime)) is = refl

pub folder_is_no_file : (o : Option Node) → is_folder o ≡ true → is_file o ≡ false
folder_is_no_file None is = refl
folder_is_no_file (Some (File bytes mtime)) is = absurd (true≢false (sym is))
folder_is_no_file (Some (Folder mtime)) is = refl

pub folder_from : (root : Node) (folders : Folders) (path : PathValue) (b : Bool) → IsWhole root folders → option_map (λ entries. length entries == 0) (contents_of folders path) ≡ Some b → is_folder (held_at root folders path) ≡ true
folder_from root folders path b whole is = whole.folders_held path ∙ there (contents_of folders path) is
  where
    there : (o : Option Contents) → option_map (λ entries. length entries == 0) o ≡ Some b → is_some o ≡ true
    there None is = absurd (true≢false (sym (subst IsSome (sym is) refl)))
    there (Some entries) is = refl

-- a folder that isn't empty has an entry
pub has_entry : (root : Node) (folders : Folders) (stages : Stages) (path : PathValue) → option_map (λ entries. length entries == 0) (contents_of folders path) ≡ Some false → HasEntries (made_of root folders stages) path
has_entry root folders stages path is =
    let found = in_contents (contents_of folders path) is in
    (found.0, subst IsSome (sym (held-child root folders path found.0)) found.1)
  where
    in_contents : (o : Option Contents) → option_map (λ entries. length entries == 0) o ≡ Some false → (name : List ℕ) × IsSome (option_and_then (λ c. entry_of c name) o)
    in_contents None is = absurd (true≢false (sym (subst IsSome (sym is) refl)))
    in_contents (Some []) is = absurd (true≢false (ap (λ (o : Option Bool). option_map_or (λ b. b) o false) is))
    in_contents (Some (e ∷ es)) is = (e.0, subst (λ r. IsSome (cond (is_eq r) (Some e.1) (entry_of es e.0))) (sym (tied_itself nat_list_cmp_total e.0)) refl)

-- a folder without entries has none
pub no_entries : (root : Node) (folders : Folders) (stages : Stages) (path : PathValue) → ((name : List ℕ) → entry_at folders path name ≡ None) → HasEntries (made_of root folders stages) path → ⊥
no_entries root folders stages path none has = not_there _ (held-child root folders path has.0 ∙ none has.0) has.1
