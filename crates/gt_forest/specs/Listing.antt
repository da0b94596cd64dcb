-- Listings: the names in a folder, in the order of their bytes.
use Rattle.std.specs.Cmp.Lexicographic.{slice_cmp}
use Rattle.std.specs.declared.cmp.Ordering.TheVariants.{Less}
use Rattle.std.specs.List.{All}
use Rattle.std.specs.List.Sorted.{IsStrictlySortedBy}
use Rattle.std.specs.Ordering.{nat_cmp}
use Rattle.std.specs.Option.{option_map}
use Rattle.std.specs.Prelude.{Contains, IsSome, List, None, Option, Some, length, map, ℕ, ◌≡◌, ◌≤◌, ◌⊎◌}
use Rattle.gt_paths.specs.Path.{PathValue, child_path}
use Rattle.gt_types.specs.declared.listing.Entry.{Entry}
use Rattle.gt_types.specs.declared.listing.Kind.{Kind}
use Rattle.gt_types.specs.declared.listing.Kind.TheVariants.{File as FileKind, Folder as FolderKind}
use Rattle.gt_forest.specs.declared.node.Node.{Node}
use Rattle.gt_forest.specs.declared.node.Node.TheVariants.{File, Folder}

-- the first name comes before the second, by the first bytes that differ
abbrev pub IsBefore : List ℕ → List ℕ → Type 0
IsBefore a b = slice_cmp nat_cmp a b ≡ Less

-- a name that a listing may have which begins after that one
abbrev pub IsAfter : Option (List ℕ) → List ℕ → Type 0
IsAfter None name = Unit {0}
IsAfter (Some earlier) name = IsBefore earlier name

-- the names of the entries
abbrev pub names_of : List Entry → List (List ℕ)
names_of entries = map (λ entry. entry.name) entries

-- the names rise strictly, come after that one, and are at most so many
pub record IsInOrder (after : Option (List ℕ)) (limit : ℕ) (entries : List Entry) : Type 0 where
  pub rises : IsStrictlySortedBy (slice_cmp nat_cmp) (names_of entries)
  pub later : All (IsAfter after) (names_of entries)
  pub few : length entries ≤ limit

-- a file or a folder
abbrev pub kind_of : Node → Kind
kind_of (File bytes mtime) = FileKind
kind_of (Folder mtime) = FolderKind

-- The first so many entries of the folder after that name: each is there, and one that is there and left out comes
-- after all of a full listing.
pub record IsListing (nodes : PathValue → Option Node) (folder : PathValue) (after : Option (List ℕ)) (limit : ℕ) (entries : List Entry) : Type 0 where
  pub order : IsInOrder after limit entries
  pub there : All (λ entry. option_map kind_of (nodes (child_path folder entry.name)) ≡ Some entry.kind) entries
  pub whole : (name : List ℕ) → IsSome (nodes (child_path folder name)) → IsAfter after name
      → Contains (names_of entries) name ⊎ ((length entries ≡ limit) × All (λ listed. IsBefore listed name) (names_of entries))
