use Rattle.std.proofs.Common.{◌≡◌, map, take}
use Rattle.gt_machine.specs.Document.{task_document}
use Rattle.gt_machine.proofs.state.State.task_documents.Given as goal

-- the documents of the tasks so far
abbrev pub invariant-loop-task : goal.invariant-loop-task
invariant-loop-task l = l.shown.items ≡ map (task_document l.self.machine) (map (λ task. task.now) (take l.task-index l.tasks))
