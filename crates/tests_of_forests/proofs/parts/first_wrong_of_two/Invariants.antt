use Rattle.std.proofs.Common.{◌≡◌}
use Rattle.tests_of_forests.proofs.parts.first_wrong_of_two.Given as goal

abbrev pub invariant-loop-i : goal.invariant-loop-i
invariant-loop-i g l = (l.own.collections ≡ l.fn.own.collections) × (l.other.collections ≡ l.fn.other.collections)
