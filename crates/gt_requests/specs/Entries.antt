-- The entries of a transfer document.
use Rattle.std.specs.Prelude.{Bool, List, Ok, Option, Result, codes, not, ◌&&◌}
use Rattle.serde_json.specs.Data.{Data}
use Rattle.gt_documents.specs.Lists.{items_at}
use Rattle.gt_documents.specs.Members.{constant_at, object_at, path_at, unset_at}
use Rattle.gt_documents.specs.Place.{Place, member_place}
use Rattle.gt_documents.specs.Reading.{unless_not}
use Rattle.gt_paths.specs.Path.{PathValue, overlaps}
use Rattle.gt_types.specs.declared.spec.TransferEntry.{TransferEntry}
use Rattle.gt_values.specs.Results.{◌>>=◌}

-- the homes of the two collections, and whether they are one
pub record Sides : Type 0 where
  pub source : PathValue
  pub destination : PathValue
  pub are_one : Bool

-- these homes, and whether the collections are one
abbrev pub sides_between : PathValue → PathValue → Bool → Sides
sides_between source destination are_one = record { source = source; destination = destination; are_one = are_one }

-- the two paths don't overlap where the collections are one
abbrev pub apart_at : Bool → PathValue → PathValue → Result Unit Place
apart_at are_one source destination = unless_not (not (are_one && overlaps source destination)) (member_place (codes "destination_path"))

-- the member `recursive` of an entry of these paths, which are tested first
abbrev pub recursive_at : Bool → PathValue → PathValue → Data → Result (Option Bool) Place
recursive_at are_one source destination d = apart_at are_one source destination >>= λ _. unset_at d (codes "recursive")

-- two paths, which are apart
unfoldable pub entry_of : Sides → Data → Result TransferEntry Place
entry_of sides d = do
  _ ← object_at d
  _ ← constant_at (codes "transfer_item") d (codes "DATA_TYPE")
  source ← path_at sides.source d (codes "source_path")
  destination ← path_at sides.destination d (codes "destination_path")
  recursive ← recursive_at sides.are_one source destination d
  Ok (record { source = source; destination = destination; recursive = recursive })

-- 1 to 10,000 entries
unfoldable pub entries_of : Sides → Data → Result (List TransferEntry) Place
entries_of sides d = items_at (entry_of sides) 1 10000 d (codes "DATA")
