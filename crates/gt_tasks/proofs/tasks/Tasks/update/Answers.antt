use Rattle.std.proofs.Common.{ap}
use Rattle.gt_tasks.proofs.FoundLemmas.{filed_written}
use Rattle.gt_tasks.proofs.tasks.Tasks.update.Goals as goal

pub invariant_of-self : goal.invariant_of-self
invariant_of-self c =
    filed_written _ c.self.inside.rows.rows c.self.inside.rows.spare c.self.inside.found c.self.inside.room c.args.task c.row_mut.result.now c.update.new.self
    c.self.invariant c.row_mut.ensures.row
    (record { owner = ap (λ r. r.owner) c.update.ensures; submission = ap (λ r. r.submission) c.update.ensures; number = ap (λ r. r.number) c.update.ensures })
