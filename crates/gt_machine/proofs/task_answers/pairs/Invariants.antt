use Rattle.std.proofs.Common.{◌≡◌, map, take}
use Rattle.gt_machine.specs.Document.{pair_of}
use Rattle.gt_machine.proofs.task_answers.pairs.Given as goal

-- the paths of the items so far
abbrev pub invariant-loop-item : goal.invariant-loop-item
invariant-loop-item l = l.shown.items ≡ map pair_of (map (λ item. item.now) (take l.item-index l.items))
