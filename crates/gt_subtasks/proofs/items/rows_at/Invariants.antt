use Rattle.std.proofs.Common.{◌≡◌, map, slice_get, take}
use Rattle.std.specs.List.{filter_map}
use Rattle.gt_subtasks.proofs.items.rows_at.Given as goal

-- the rows at the places so far
abbrev pub invariant-loop-place : goal.invariant-loop-place
invariant-loop-place l = map (λ item. item.now) l.found.items ≡ filter_map (slice_get l.rows) (take l.place-index l.places)
