use Rattle.std.proofs.Common.{List, drop, option_map, ℕ, ◌++◌, ◌≡◌}
use Rattle.std.specs.BTreeMap.{BTreeMap, keys}
use Rattle.toml.specs.View.{items_view}
use Rattle.toml.specs.declared.value.Value.{Value}
use Rattle.gt_setup.specs.Indexed.{Takes}
use Rattle.gt_setup.specs.Value.{digests_in}
use Rattle.gt_setup.proofs.value.digests_in.Given as goal

-- the digests before this place have been taken
pub record TakesBefore (row : ℕ) (items : List Value) (at : ℕ) (digests : List (List ℕ)) (old new : BTreeMap (List ℕ) ℕ) : Type 0 where
  pub read : digests_in (keys old) (items_view items) ≡ option_map (λ rest. digests ++ rest) (digests_in (keys new) (items_view (drop at items)))
  pub takes : Takes row digests old new

abbrev pub invariant-loop-at : goal.invariant-loop-at
invariant-loop-at l = TakesBefore l.row l.items l.at l.digests.items l.fn.taken l.taken
