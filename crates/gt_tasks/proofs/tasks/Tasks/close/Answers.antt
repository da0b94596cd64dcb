use Rattle.std.proofs.Common.{refl}
use Rattle.gt_tasks.proofs.FoundLemmas.{filed_written}
use Rattle.gt_tasks.proofs.tasks.Tasks.close.Goals as goal

pub invariant_of-self : goal.invariant_of-self
invariant_of-self c =
    filed_written _ c.self.inside.rows.rows c.self.inside.rows.spare c.self.inside.found c.self.inside.room c.args.task c.row_mut.result.now _
    c.self.invariant c.row_mut.ensures.row (record { owner = refl; submission = refl; number = refl })
