use Rattle.std.proofs.Common.{◌≡◌, map, take}
use Rattle.gt_machine.specs.Document.{skipped_document}
use Rattle.gt_machine.proofs.task_answers.skipped_documents.Given as goal

-- the rows of the items so far
abbrev pub invariant-loop-item : goal.invariant-loop-item
invariant-loop-item l = l.shown.items ≡ map skipped_document (map (λ item. item.now) (take l.item-index l.items))
