-- Paths as lists of names.
use Rattle.std.specs.Cmp.Lexicographic.{pointwise, slice_cmp}
use Rattle.std.specs.declared.cmp.Ordering.{Ordering}
use Rattle.std.specs.List.{list_all}
use Rattle.std.specs.Ordering.{nat_cmp}
use Rattle.std.specs.Prelude.{Bool, List, [], false, length, nat_le, true, ℕ, ◌&&◌, ◌++◌, ◌||◌, ◌∷◌, ◌≡◌}
use Rattle.std.specs.Str.{bytes_eq}
use Rattle.gt_paths.specs.Name.{is_name}
use Rattle.gt_values.specs.Ascii.{slash}

-- a path, as the list of its names
abbrev pub PathValue : Type 0
PathValue = List (List ℕ)

-- the folder's names are the first names of the path
abbrev pub IsUnder : PathValue → PathValue → Type 0
IsUnder path folder = (rest : PathValue) × (folder ++ rest ≡ path)

-- the same, as a test
abbrev pub is_under : PathValue → PathValue → Bool
is_under path [] = true
is_under [] (f ∷ fs) = false
is_under (n ∷ ns) (f ∷ fs) = bytes_eq f n && is_under ns fs

-- whether one of the two is under the other
abbrev pub overlaps : PathValue → PathValue → Bool
overlaps a b = is_under a b || is_under b a

-- the names of the path below the folder
abbrev pub below : PathValue → PathValue → PathValue
below path [] = path
below [] (f ∷ fs) = []
below (n ∷ ns) (f ∷ fs) = below ns fs

-- whether the two are one path
abbrev pub same_path : PathValue → PathValue → Bool
same_path a b = pointwise bytes_eq a b

-- the order of paths: by the first names that differ, and of names by the first bytes that do
abbrev pub path_cmp : PathValue → PathValue → Ordering
path_cmp = slice_cmp (slice_cmp nat_cmp)

-- the path of the name in the folder
abbrev pub child_path : PathValue → List ℕ → PathValue
child_path folder name = folder ++ name ∷ []

-- a slash before each name
abbrev pub slashed : PathValue → List ℕ
slashed [] = []
slashed (name ∷ names) = (slash ∷ name) ++ slashed names

-- how the path is written: a slash before each name, and a lone one for the root
abbrev pub printed_path : PathValue → List ℕ
printed_path [] = slash ∷ []
printed_path (name ∷ names) = slashed (name ∷ names)

-- how many bytes the path is printed with
abbrev pub printed_len : PathValue → ℕ
printed_len path = length (printed_path path)

-- how many names a path has at most
abbrev pub most_names : ℕ
most_names = 64

-- how many bytes a path is printed with at most
abbrev pub most_bytes : ℕ
most_bytes = 4096

-- the path is within its two limits
abbrev pub is_short_path : PathValue → Bool
is_short_path path = nat_le (length path) most_names && nat_le (printed_len path) most_bytes

-- whether the list of names is a path within its limits
abbrev pub is_path : PathValue → Bool
is_path path = list_all is_name path && is_short_path path
