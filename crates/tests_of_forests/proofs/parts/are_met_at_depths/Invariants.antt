use Rattle.std.proofs.Common.{◌≡◌}
use Rattle.tests_of_forests.proofs.parts.are_met_at_depths.Given as goal

abbrev pub invariant-loop-i : goal.invariant-loop-i
invariant-loop-i g l = l.forest.collections ≡ l.fn.forest.collections
