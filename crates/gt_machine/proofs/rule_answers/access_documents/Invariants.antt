use Rattle.std.proofs.Common.{◌≡◌, map, take}
use Rattle.gt_machine.specs.Document.{access_document}
use Rattle.gt_machine.proofs.rule_answers.access_documents.Given as goal

-- the documents of the rules so far
abbrev pub invariant-loop-row : goal.invariant-loop-row
invariant-loop-row l = l.shown.items ≡ map access_document (map (λ row. row.now) (take l.row-index l.rows))
