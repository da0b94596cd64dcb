use Rattle.std.proofs.Common.{None, take, ◌≡◌}
use Rattle.std.specs.List.{fold}
use Rattle.gt_claims.proofs.LeastLemmas.{met}
use Rattle.gt_claims.proofs.claims.Claims.least.Given as goal

-- the least item of the claims met so far
abbrev pub invariant-loop-item : goal.invariant-loop-item
invariant-loop-item g l = l.least ≡ fold (met (g.T.Test.test l.asked)) None (take l.item-index l.item-items)
