use Rattle.std.proofs.Common.{◌≡◌}
use Rattle.tests_of_forests.proofs.parts.are_done_for_stages.Given as goal

abbrev pub invariant-loop-key : goal.invariant-loop-key
invariant-loop-key g l = l.forest.collections ≡ l.fn.forest.collections
