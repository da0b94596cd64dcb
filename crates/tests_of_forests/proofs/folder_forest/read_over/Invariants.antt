use Rattle.std.proofs.Common.{◌≡◌}
use Rattle.tests_of_forests.proofs.folder_forest.read_over.Given as goal

abbrev pub invariant-loop : goal.invariant-loop
invariant-loop l = l.forest.collections ≡ l.fn.forest.collections
