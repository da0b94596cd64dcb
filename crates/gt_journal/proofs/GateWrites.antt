-- The writes at a gate.
use Rattle.std.proofs.Common.{ℕ, ◌+◌, List, [], ◌∷◌}
use Rattle.std.specs.Prelude.{Result}
use Rattle.gt_disk.specs.Disk.{DiskWords, DiskLaws, WriteAnswer}
use Rattle.gt_journal.specs.Gates.{Closed, InDoubt, IsGateAt, Keeps}
use Rattle.gt_journal.proofs.Runs.{begins, and_write}
use Rattle.gt_journal.proofs.Steps.{torn_behind, torn_gate}

module _ {D : Type 0} (words : DiskWords D) (laws : DiskLaws words) (disk new : D) (place : ℕ) (front : List ℕ) where
  -- behind a closed gate
  pub written_behind_gate : {E : Type 0} (bytes : List ℕ) (result : Result Unit E) → IsGateAt words disk place front (Closed front) → WriteAnswer words disk (place + 1) bytes result new
      → Keeps words disk new (Closed front)
  written_behind_gate bytes result at answer =
      and_write words disk disk new (Closed front) (place + 1) bytes result (λ d c closed torn. torn_behind front place at.is _ d c closed torn) (begins words laws disk (Closed front) at.honest at.images) answer

  -- the gate
  pub written_at_gate : {E : Type 0} (body : List ℕ) (gate : ℕ) (result : Result Unit E) → IsGateAt words disk place front (InDoubt front body) → WriteAnswer words disk place (gate ∷ []) result new
      → Keeps words disk new (InDoubt front body)
  written_at_gate body gate result at answer =
      and_write words disk disk new (InDoubt front body) place (gate ∷ []) result (λ d c doubt torn. torn_gate front place at.is body doubt.0 d c doubt.1 torn)
      (begins words laws disk (InDoubt front body) at.honest at.images) answer
