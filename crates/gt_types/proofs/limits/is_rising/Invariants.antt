use Rattle.std.proofs.Common.{length, ◌≡◌}
use Rattle.gt_types.specs.Listing.{is_rising}
use Rattle.gt_types.proofs.limits.is_rising.Given as goal

-- the names rise where those that are left do
abbrev pub invariant-loop-rest : goal.invariant-loop-rest
invariant-loop-rest l = is_rising l.rest ≡ is_rising l.entries

abbrev pub decreases-loop-rest : goal.decreases-loop-rest
decreases-loop-rest l = length l.rest
