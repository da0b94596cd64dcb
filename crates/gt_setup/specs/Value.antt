-- What the value of each key of a setup stands for.
use Rattle.std.specs.Char.{is_ascii_uppercase}
use Rattle.std.specs.List.{list_any}
use Rattle.std.specs.Option.{option_and_then}
use Rattle.std.specs.Prelude.{Bool, List, None, Option, Some, [], false, if◌then◌else◌, length, nat_le, nat_lt, option_map, pos, suc, true, ℕ, ◌&&◌, ◌++◌, ◌^◌, ◌∷◌}
use Rattle.std.specs.Result.{result_ok}
use Rattle.std.specs.Str.{bytes_eq}
use Rattle.gt_paths.specs.Path.{PathValue}
use Rattle.gt_paths.specs.PathText.{read_path}
use Rattle.gt_values.specs.IdText.{id_of}
use Rattle.hex.specs.Hex.{decode_sized}
use Rattle.toml.specs.Data.{Data, Items, array, integer, item, no_items, string, table}

-- a whole number from 0 to 4,294,967,295
abbrev pub namespace_in : Data → Option ℕ
namespace_in (integer (pos n)) = if nat_lt n (2 ^ 32) then Some n else None
namespace_in _ = None

-- the text of a UUID
abbrev pub id_in : Data → Option (List ℕ)
id_in (string text) = id_of text
id_in _ = None

-- a text of 1 to 255 bytes
abbrev pub name_in : Data → Option (List ℕ)
name_in (string text) = if nat_le 1 (length text) && nat_le (length text) 255 then Some text else None
name_in _ = None

-- the text of a path, read with the root as home
abbrev pub home_in : Data → Option PathValue
home_in (string text) = result_ok (read_path [] text)
home_in _ = None

-- the digest that 64 hexadecimal digits in lower case write
abbrev pub digest_of : List ℕ → Option (List ℕ)
digest_of text = if list_any is_ascii_uppercase text then None else result_ok (decode_sized text 32)

-- a text of 64 hexadecimal digits, in lower case
abbrev pub digest_in : Data → Option (List ℕ)
digest_in (string text) = digest_of text
digest_in _ = None

-- the identifiers, if each item is one
abbrev pub ids_in : Items → Option (List (List ℕ))
ids_in no_items = Some []
ids_in (item d ds) = option_and_then (λ id. option_map (λ ids. id ∷ ids) (ids_in ds)) (id_in d)

-- an array of texts of UUIDs
abbrev pub groups_in : Data → Option (List (List ℕ))
groups_in (array ds) = ids_in ds
groups_in _ = None

-- a digest that none of the earlier ones is
abbrev pub new_digest_in : List (List ℕ) → Data → Option (List ℕ)
new_digest_in earlier d =
    option_and_then (λ digest. if list_any (λ other. bytes_eq other digest) earlier then None else Some digest) (digest_in d)

-- the digests, if each item is one that stands neither among the earlier ones nor before
abbrev pub digests_in : List (List ℕ) → Items → Option (List (List ℕ))
digests_in earlier no_items = Some []
digests_in earlier (item d ds) =
    option_and_then (λ digest. option_map (λ digests. digest ∷ digests) (digests_in (earlier ++ digest ∷ []) ds)) (new_digest_in earlier d)

-- an array of digests, none of which stands earlier
abbrev pub tokens_in : List (List ℕ) → Data → Option (List (List ℕ))
tokens_in earlier (array ds) = digests_in earlier ds
tokens_in earlier _ = None

abbrev pub is_table : Data → Bool
is_table (table ms) = true
is_table _ = false

-- whether each item is a table
abbrev pub are_tables : Items → Bool
are_tables no_items = true
are_tables (item d ds) = is_table d && are_tables ds

-- how many items there are
abbrev pub count : Items → ℕ
count no_items = 0
count (item d ds) = suc (count ds)

-- 1 to 1,048,576 tables: a file has no more bytes than that
abbrev pub rows_among : Items → Option Items
rows_among ds = if (nat_le 1 (count ds) && nat_le (count ds) 1048576) && are_tables ds then Some ds else None

-- an array of that many tables
abbrev pub rows_in : Data → Option Items
rows_in (array ds) = rows_among ds
rows_in _ = None
