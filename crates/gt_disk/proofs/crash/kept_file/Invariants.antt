use Rattle.gt_disk.specs.Images.{fresh}
use Rattle.gt_disk.specs.MemFile.{steps_of}
use Rattle.gt_disk.proofs.KeptLemmas.{Again}
use Rattle.gt_disk.proofs.crash.kept_file.Given as goal

abbrev pub invariant-loop-call : goal.invariant-loop-call
invariant-loop-call l = Again l.keep (fresh l.start) (steps_of l.noted) l.call-index l.seen.items l.left.items
