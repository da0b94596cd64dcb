use Rattle.std.proofs.Common.{length, ◌-◌, IfOk, ◌≤◌, ◌≡◌, ℕ, ◌+◌, ◌*◌, ◌<◌, ℤ, pos, ◌+ℤ◌, ◌-ℤ◌, ◌*ℤ◌, ◌≤ℤ◌, ◌<ℤ◌, FitsSigned, to_z, of_z}
use Rattle.gt_folders.proofs.bytes.write_all.Given as goal

-- no more was written than there is
abbrev pub invariant-loop-wrote : goal.invariant-loop-wrote
invariant-loop-wrote l = l.wrote ≤ length l.bytes

-- each round writes a byte at least
abbrev pub decreases-loop-wrote : goal.decreases-loop-wrote
decreases-loop-wrote l = length l.bytes - l.wrote
