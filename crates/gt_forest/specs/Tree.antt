-- What a forest tells: the trees of its collections with their staging files, which paths are denied, and whether its
-- appends store what they are given.
use Rattle.std.specs.Option.{option_map_or}
use Rattle.std.specs.Prelude.{Bool, Contains, IsSome, List, None, Option, Some, [], false, if◌then◌else◌, length, slice_index_or, take, true, ℕ, ◌==◌, ◌∷◌, ◌≡◌}
use Rattle.gt_paths.specs.Path.{PathValue, child_path}
use Rattle.gt_forest.specs.declared.node.Node.{Node}
use Rattle.gt_forest.specs.declared.node.Node.TheVariants.{File, Folder}

-- what stands at each path, and the bytes of the staging file under each key
pub record Tree : Type 0 where
  pub nodes : PathValue → Option Node
  pub stages : ℕ → Option (List ℕ)

-- the tree of each collection, whether a path of a collection is denied, and whether appends store what they are given
pub record Trees : Type 0 where
  pub tree : ℕ → Tree
  pub denies : ℕ → PathValue → Bool
  pub is_faithful : Bool

-- whether a folder is there
abbrev pub is_folder : Option Node → Bool
is_folder None = false
is_folder (Some (File bytes mtime)) = false
is_folder (Some (Folder mtime)) = true

-- whether a file is there
abbrev pub is_file : Option Node → Bool
is_file None = false
is_file (Some (File bytes mtime)) = true
is_file (Some (Folder mtime)) = false

-- the folder that a path is in, and its name there; the root has neither
abbrev pub place_of : PathValue → Option (PathValue × List ℕ)
place_of [] = None
place_of (name ∷ names) = Some (take (length names) (name ∷ names), slice_index_or (name ∷ names) (length names) name)

-- The root is a folder, and so is the parent of each other path. Paths and keys are finitely many.
pub record IsTree (tree : Tree) : Type 0 where
  pub root : is_folder (tree.nodes []) ≡ true
  pub parents : (folder : PathValue) (name : List ℕ) → IsSome (tree.nodes (child_path folder name)) → is_folder (tree.nodes folder) ≡ true
  pub paths : (all : List PathValue) × ((path : PathValue) → IsSome (tree.nodes path) → Contains all path)
  pub keys : (all : List ℕ) × ((key : ℕ) → IsSome (tree.stages key) → Contains all key)

-- what stands at a path of a collection
abbrev pub node_at : Trees → ℕ → PathValue → Option Node
node_at trees collection path = (trees.tree collection).nodes path

-- the staging file under a key of a collection
abbrev pub stage_at : Trees → ℕ → ℕ → Option (List ℕ)
stage_at trees collection key = (trees.tree collection).stages key

-- whether the folder that the path is in is there; the root needs none
abbrev pub has_parent : Tree → PathValue → Bool
has_parent tree path = option_map_or (λ place. is_folder (tree.nodes place.0)) (place_of path) true

-- something stands in the folder
abbrev pub HasEntries : Tree → PathValue → Type 0
HasEntries tree folder = (name : List ℕ) × IsSome (tree.nodes (child_path folder name))

-- nothing at all
abbrev pub no_tree : Tree
no_tree = record { nodes = λ _. None; stages = λ _. None }

-- what a forest has that tells nothing
abbrev pub no_trees : Trees
no_trees = record { tree = λ _. no_tree; denies = λ _ _. false; is_faithful = false }

-- an empty root of the time 0
abbrev pub empty_tree : Tree
empty_tree = record { nodes = λ path. if length path == 0 then Some (Folder 0) else None; stages = λ key. None }

-- each collection has a tree
abbrev pub AreTrees : Trees → Type 0
AreTrees trees = (collection : ℕ) → IsTree (trees.tree collection)
