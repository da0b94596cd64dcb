-- Which text is which path, and what is wrong with any other.
use Rattle.gt_paths.specs.declared.fault.PathFault.{PathFault}
use Rattle.gt_paths.specs.declared.fault.PathFault.TheVariants.{BadName, NotAbsolute, TooDeep, TooLong}
use Rattle.gt_paths.specs.Name.{is_name}
use Rattle.gt_paths.specs.Path.{PathValue, most_bytes, most_names, printed_len}
use Rattle.gt_values.specs.Ascii.{slash, tilde}
use Rattle.std.specs.List.{slice_split}
use Rattle.std.specs.Option.{option_map_or}
use Rattle.std.specs.Prelude.{Bool, Err, List, None, Ok, Option, Result, Some, [], drop, false, if◌then◌else◌, length, min, nat_lt, option_map, ℕ, ◌++◌, ◌+◌, ◌-◌, ◌==◌, ◌^◌, ◌∷◌, ◌≡◌}
use Rattle.std.specs.Str.{bytes_eq}

-- the parts of a split text, but a last one that is empty
abbrev pub without_empty_end : List (List ℕ) → List (List ℕ)
without_empty_end [] = []
without_empty_end (piece ∷ []) = if length piece == 0 then [] else piece ∷ []
without_empty_end (piece ∷ next ∷ rest) = piece ∷ without_empty_end (next ∷ rest)

-- the pieces between the slashes of what follows the first slash
unfoldable pub pieces_of : List ℕ → List (List ℕ)
pieces_of text = without_empty_end (slice_split (λ byte. byte == slash) text)

-- whether the first piece is `~`, which stands for the home folder
abbrev pub begins_at_home : List (List ℕ) → Bool
begins_at_home [] = false
begins_at_home (piece ∷ rest) = bytes_eq piece (tilde ∷ [])

-- the names that the pieces stand for
abbrev pub names_of : PathValue → List (List ℕ) → PathValue
names_of home pieces = if begins_at_home pieces then home ++ drop 1 pieces else pieces

-- the place of the first piece that is no name
abbrev pub first_bad : List (List ℕ) → Option ℕ
first_bad [] = None
first_bad (piece ∷ rest) = if is_name piece then option_map (λ at. at + 1) (first_bad rest) else Some 0

-- the same, where a first `~` is no fault
abbrev pub bad_place : List (List ℕ) → Option ℕ
bad_place pieces =
    if begins_at_home pieces then option_map (λ at. at + 1) (first_bad (drop 1 pieces)) else first_bad pieces

-- the path of these names, or the first limit that they pass
abbrev pub limited : PathValue → Result PathValue PathFault
limited path =
    if nat_lt most_names (length path) then Err (TooDeep (length path))
    else if nat_lt most_bytes (printed_len path) then Err (TooLong (printed_len path))
    else Ok path

-- the fault of a piece that is no name: its place, of which 4 bytes can tell 2^32 - 1 at most
abbrev pub bad_name : ℕ → PathFault
bad_name at = BadName (min at (2 ^ 32 - 1))

-- the fault tells the first bad piece
abbrev pub IsBadPiece : List (List ℕ) → PathFault → Type 0
IsBadPiece pieces fault = (at : ℕ) × (bad_place pieces ≡ Some at) × (fault ≡ bad_name at)

-- the path of these pieces, or what is wrong with them
unfoldable pub path_of_pieces : PathValue → List (List ℕ) → Result PathValue PathFault
path_of_pieces home pieces = option_map_or (λ at. Err (bad_name at)) (bad_place pieces) (limited (names_of home pieces))

-- the path that the text is, where `~` is the home folder, or what is wrong with the text
unfoldable pub read_path : PathValue → List ℕ → Result PathValue PathFault
read_path home [] = Err NotAbsolute
read_path home (first ∷ rest) = if first == slash then path_of_pieces home (pieces_of rest) else Err NotAbsolute
