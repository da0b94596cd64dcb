-- What stands in a folder.
use Rattle.gt_paths.specs.Name.{is_name}
use Rattle.gt_types.specs.declared.listing.Entry.{Entry}
use Rattle.gt_types.specs.declared.listing.Kind.{Kind}
use Rattle.gt_types.specs.declared.listing.Kind.TheVariants.{File, Folder}
use Rattle.gt_types.specs.declared.listing.Stat.{Stat}
use Rattle.gt_values.specs.Forms.{is_moment, is_u64}
use Rattle.std.specs.Cmp.Lexicographic.{slice_cmp}
use Rattle.std.specs.List.{list_all}
use Rattle.std.specs.Ordering.{is_lt, nat_cmp}
use Rattle.std.specs.Prelude.{Bool, List, Option, [], false, find, length, nat_le, option_map, true, ℕ, ◌&&◌, ◌∷◌}
use Rattle.std.specs.Str.{bytes_eq}

-- whether the two kinds are one
abbrev pub same_kind : Kind → Kind → Bool
same_kind File File = true
same_kind File Folder = false
same_kind Folder File = false
same_kind Folder Folder = true

-- the kind of the name in the listing
abbrev pub kind_in : List Entry → List ℕ → Option Kind
kind_in entries name = option_map (λ entry. entry.kind) (find (λ entry. bytes_eq entry.name name) entries)

-- whether the name comes before that of the first entry, if there is one
abbrev pub is_first : List ℕ → List Entry → Bool
is_first name [] = true
is_first name (next ∷ rest) = is_lt (slice_cmp nat_cmp name next.name)

-- whether the names rise by bytes, each once
abbrev pub is_rising : List Entry → Bool
is_rising [] = true
is_rising (entry ∷ rest) = is_first entry.name rest && is_rising rest

-- whether the entries are those of a folder: at most 4,096 names, which rise by bytes
abbrev pub is_listing : List Entry → Bool
is_listing entries =
    nat_le (length entries) 4096 && is_rising entries && list_all (λ entry. is_name entry.name) entries

-- a size of 8 bytes and a moment
abbrev pub is_stat : Stat → Bool
is_stat stat = is_u64 stat.size && is_moment stat.mtime
