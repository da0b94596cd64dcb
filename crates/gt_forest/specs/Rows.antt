-- A tree in memory as rows: each folder with its entries, and each staging file, in order of their keys.
use Rattle.std.specs.BTreeMap.Range.{entries_between}
use Rattle.std.specs.BTreeMap.{BTreeMap, is_at}
use Rattle.std.specs.Cmp.Lexicographic.{slice_cmp}
use Rattle.std.specs.declared.alloc.Global.{Global}
use Rattle.std.specs.declared.ops.Bound.{Bound}
use Rattle.std.specs.declared.ops.Bound.TheVariants.{Excluded, Unbounded}
use Rattle.std.specs.declared.vec.Vec.{Vec}
use Rattle.std.specs.List.{All}
use Rattle.std.specs.List.Sorted.{IsStrictlySortedBy}
use Rattle.std.specs.Map.{keys_of, lookup}
use Rattle.std.specs.Option.{option_and_then, option_map_or}
use Rattle.std.specs.Ordering.{nat_cmp}
use Rattle.std.specs.Prelude.{Bool, List, None, Option, Some, [], if◌then◌else◌, is_some, map, true, ℕ, ◌-◌, ◌∷◌, ◌≡◌, ◌≢◌}
use Rattle.gt_paths.specs.Path.{PathValue, path_cmp}
use Rattle.gt_types.specs.declared.listing.Entry.{Entry}
use Rattle.gt_forest.specs.Listing.{kind_of}
use Rattle.gt_forest.specs.Tree.{Tree, is_folder, place_of}
use Rattle.gt_forest.specs.declared.node.Node.{Node}
use Rattle.gt_forest.specs.declared.node.Node.TheVariants.{Folder}

-- the entries of a folder, by name
abbrev pub Contents : Type 0
Contents = List (List ℕ × Node)

-- the folders, by path
abbrev pub Folders : Type 0
Folders = List (PathValue × Contents)

-- the staging files, by key
abbrev pub Stages : Type 0
Stages = List (ℕ × List ℕ)

-- the root, the folders and the staging files
pub record TreeRows : Type 0 where
  pub root : Node
  pub folders : Folders
  pub stages : Stages

-- the rows of a map of folders
abbrev pub folder_rows : BTreeMap (Vec (List ℕ) Global) (BTreeMap (List ℕ) Node) → Folders
folder_rows folders = map (λ e. (e.0.items, e.1.entries)) folders.entries

-- the rows of a map of staging files
abbrev pub stage_rows : BTreeMap ℕ (Vec ℕ Global) → Stages
stage_rows stages = map (λ e. (e.0, e.1.items)) stages.entries

-- the entries of the folder of this path
abbrev pub contents_of : Folders → PathValue → Option Contents
contents_of folders path = lookup (is_at (path_cmp path)) folders

-- what has this name in a folder
abbrev pub entry_of : Contents → List ℕ → Option Node
entry_of contents name = lookup (is_at (slice_cmp nat_cmp name)) contents

-- what has this name in the folder of this path
abbrev pub entry_at : Folders → PathValue → List ℕ → Option Node
entry_at folders path name = option_and_then (λ contents. entry_of contents name) (contents_of folders path)

-- what stands at the path
abbrev pub held_at : Node → Folders → PathValue → Option Node
held_at root folders path = option_map_or (λ place. entry_at folders place.0 place.1) (place_of path) (Some root)

-- the bytes of the staging file under the key
abbrev pub staged_at : Stages → ℕ → Option (List ℕ)
staged_at stages key = lookup (is_at (nat_cmp key)) stages

-- the rows as a tree
abbrev pub tree_of : TreeRows → Tree
tree_of rows = record { nodes = held_at rows.root rows.folders; stages = staged_at rows.stages }

-- The root is a folder, and exactly the folders have entries of their own.
pub record IsWhole (root : Node) (folders : Folders) : Type 0 where
  pub root_folder : is_folder (Some root) ≡ true
  pub folders_held : (path : PathValue) → is_folder (held_at root folders path) ≡ is_some (contents_of folders path)

-- in the folder the name stands for this now, and all else is as it was
pub record PutsEntry (folder : PathValue) (name : List ℕ) (node : Option Node) (before after : Folders) : Type 0 where
  pub there : (path : PathValue) → is_some (contents_of after path) ≡ is_some (contents_of before path)
  pub at : entry_at after folder name ≡ node
  pub names : (other : List ℕ) → other ≢ name → entry_at after folder other ≡ entry_at before folder other
  pub folders : (path : PathValue) → path ≢ folder → contents_of after path ≡ contents_of before path

-- each folder has the entries that it had
abbrev pub SameFolders : Folders → Folders → Type 0
SameFolders before after = (path : PathValue) → contents_of after path ≡ contents_of before path

-- the folder of the path has these entries now, or none of its own, and all others are as they were
pub record PutsFolder (path : PathValue) (contents : Option Contents) (before after : Folders) : Type 0 where
  pub at : contents_of after path ≡ contents
  pub folders : (other : PathValue) → other ≢ path → contents_of after other ≡ contents_of before other

-- the staging file under the key has these bytes now, or is gone, and all others are as they were
pub record PutsStage (key : ℕ) (bytes : Option (List ℕ)) (before after : Stages) : Type 0 where
  pub at : staged_at after key ≡ bytes
  pub keys : (other : ℕ) → other ≢ key → staged_at after other ≡ staged_at before other

-- each staging file has the bytes that it had
abbrev pub SameStages : Stages → Stages → Type 0
SameStages before after = (key : ℕ) → staged_at after key ≡ staged_at before key

-- first the folder of the path has these entries, or none of its own, and then the entry for it in its parent is this
pub record ChangesFolder (path : PathValue) (contents : Option Contents) (parent : PathValue) (name : List ℕ) (node : Option Node) (before after : Folders) : Type 0 where
  pub mid : Folders
  pub first : PutsFolder path contents before mid
  pub second : PutsEntry parent name node mid after

-- a tree with an empty root of the time 0
abbrev pub fresh_rows : TreeRows
fresh_rows = record { root = Folder 0; folders = ([], []) ∷ []; stages = [] }

-- all else than this path and this key is as it was
pub record KeepsOthers (path : Option PathValue) (key : Option ℕ) (before after : Tree) : Type 0 where
  pub paths : (other : PathValue) → (path ≡ Some other → ⊥) → after.nodes other ≡ before.nodes other
  pub stages : (other : ℕ) → (key ≡ Some other → ⊥) → after.stages other ≡ before.stages other

-- the bytes with the first one inverted
abbrev pub inverted : List ℕ → List ℕ
inverted [] = []
inverted (byte ∷ bytes) = (255 - byte) ∷ bytes

-- what an append stores of these bytes
abbrev pub stored : Bool → List ℕ → List ℕ
stored is_corrupt bytes = if is_corrupt then inverted bytes else bytes

-- where the names after that one begin
abbrev pub start_of : Option (List ℕ) → Bound (List ℕ)
start_of None = Unbounded
start_of (Some name) = Excluded name

-- the entries of a folder that come after the name
abbrev pub later_entries : Option (List ℕ) → Contents → Contents
later_entries after contents = entries_between (slice_cmp nat_cmp) (start_of after) Unbounded contents

-- an entry as it is listed
abbrev pub listed : List ℕ × Node → Entry
listed e = record { name = e.0; kind = kind_of e.1 }

-- in a listing of these entries each is found by its name, and the names rise
pub record IsIndexed (contents : Contents) : Type 0 where
  pub rises : IsStrictlySortedBy (slice_cmp nat_cmp) (keys_of contents)
  pub each : All (λ e. entry_of contents e.0 ≡ Some e.1) contents
