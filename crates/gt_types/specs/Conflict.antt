-- Which acts can't run at once.
use Rattle.std.specs.List.{list_any}
use Rattle.std.specs.Prelude.{Bool, List, [], ℕ, ◌&&◌, ◌==◌, ◌||◌, ◌∷◌}
use Rattle.gt_paths.specs.Path.{PathValue, overlaps}
use Rattle.gt_types.specs.declared.act.Act.{Act}
use Rattle.gt_types.specs.declared.act.Act.TheVariants.{Erase, RemoveFolder, Transfer}

-- a path of a collection
pub record Spot : Type 0 where
  pub collection : ℕ
  pub path : PathValue

-- what the act writes, where these are the task's collections
abbrev pub written_spot : ℕ → ℕ → Act → Spot
written_spot source destination (Transfer s d want) = record { collection = destination; path = d }
written_spot source destination (Erase path want) = record { collection = destination; path = path }
written_spot source destination (RemoveFolder path) = record { collection = destination; path = path }

-- what it reads
abbrev pub read_spots : ℕ → ℕ → Act → List Spot
read_spots source destination (Transfer s d want) = record { collection = source; path = s } ∷ []
read_spots source destination (Erase path want) = []
read_spots source destination (RemoveFolder path) = []

-- what it reads or writes
abbrev pub touched_spots : ℕ → ℕ → Act → List Spot
touched_spots source destination act = written_spot source destination act ∷ read_spots source destination act

-- whether the two paths are of one collection, and one is under the other
abbrev pub meet : Spot → Spot → Bool
meet a b = (a.collection == b.collection) && overlaps a.path b.path

-- whether one act writes what the other reads or writes; each act follows its task's collections
abbrev pub conflicts : ℕ → ℕ → Act → ℕ → ℕ → Act → Bool
conflicts source destination act other_source other_destination other =
    list_any (meet (written_spot source destination act)) (touched_spots other_source other_destination other)
    || list_any (meet (written_spot other_source other_destination other)) (touched_spots source destination act)
