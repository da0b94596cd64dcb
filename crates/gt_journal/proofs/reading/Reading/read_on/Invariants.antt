use Rattle.std.proofs.Common.{◌≡◌, ◌++◌, List, ℕ, length}
use Rattle.gt_journal.specs.Reading.{IsPartial, GoesOn}
use Rattle.gt_journal.proofs.reading.Reading.read_on.Given as goal

abbrev pub invariant-loop-rest : goal.invariant-loop-rest
invariant-loop-rest l = record { whole : IsPartial l.self; read : (done : List ℕ) × (l.bytes ≡ done ++ l.rest) × GoesOn l.fn.self done l.self }

abbrev pub decreases-loop-rest : goal.decreases-loop-rest
decreases-loop-rest l = length l.rest
