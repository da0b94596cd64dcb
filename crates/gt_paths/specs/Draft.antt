-- What a draft holds while a path is put together.
use Rattle.gt_paths.specs.declared.draft.Draft.{Draft}
use Rattle.gt_paths.specs.Name.{is_name}
use Rattle.gt_paths.specs.Path.{PathValue, most_bytes, most_names, slashed}
use Rattle.std.specs.List.{list_all}
use Rattle.std.specs.Prelude.{length, true, ◌≡◌, ◌≤◌}

-- the draft counts the names of the list, and holds them while they are within the limits of a path
pub record IsDraftOf (draft : Draft) (names : PathValue) : Type 0 where
  pub named : list_all is_name names ≡ true
  pub depth : draft.depth ≡ length names
  pub bytes : draft.bytes ≡ length (slashed names)
  pub held : length names ≤ most_names → length (slashed names) ≤ most_bytes → draft.names.items ≡ names
