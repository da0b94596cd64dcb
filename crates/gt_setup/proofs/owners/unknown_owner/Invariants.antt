use Rattle.std.proofs.Common.{◌≡◌, drop, find, map, not}
use Rattle.gt_setup.specs.Setup.{has_identity}
use Rattle.gt_setup.proofs.owners.unknown_owner.Given as goal

abbrev pub invariant-loop-collection : goal.invariant-loop-collection
invariant-loop-collection l =
    find (λ owner. not (has_identity l.setup owner)) (map (λ c. c.owner) l.collections)
    ≡ find (λ owner. not (has_identity l.setup owner)) (map (λ c. c.owner) (drop l.collection-index l.collections))
