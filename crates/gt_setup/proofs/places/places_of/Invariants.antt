use Rattle.std.proofs.Common.{List, [], drop, take, ℕ, ◌≡◌}
use Rattle.std.specs.BTreeMap.{BTreeMap}
use Rattle.std.specs.Str.{bytes_eq}
use Rattle.gt_setup.specs.Grammar.{repeated_among}
use Rattle.gt_setup.specs.Indexed.{IsIndexOf}
use Rattle.gt_setup.proofs.places.places_of.Given as goal

-- the identifiers before this place differ, and have their places
pub record HasPlaces (ids : List (List ℕ)) (at : ℕ) (places : BTreeMap (List ℕ) ℕ) : Type 0 where
  pub apart : repeated_among [] ids ≡ repeated_among (take at ids) (drop at ids)
  pub index : IsIndexOf (λ key id. bytes_eq id key) (take at ids) places

abbrev pub invariant-loop-at : goal.invariant-loop-at
invariant-loop-at l = HasPlaces l.ids l.at l.places
