use Rattle.std.proofs.Common.{◌≡◌, ◌++◌, drop, option_map}
use Rattle.toml.specs.View.{items_view}
use Rattle.gt_setup.specs.Value.{ids_in}
use Rattle.gt_setup.proofs.value.ids_in.Given as goal

-- the identifiers so far, and those that are left
abbrev pub invariant-loop-at : goal.invariant-loop-at
invariant-loop-at l = ids_in (items_view l.items) ≡ option_map (λ rest. l.ids.items ++ rest) (ids_in (items_view (drop l.at l.items)))
