use Rattle.std.proofs.Common.{subst}
use Rattle.gt_journal.specs.Journal.{Rests}
use Rattle.gt_journal.proofs.Standings.{rests}
use Rattle.gt_journal.proofs.journal.Journal.in_doubt.Goals as goal

pub returns-clause-images : goal.returns-clause-images
returns-clause-images g c =
    let inside = c.self.inside in
    subst (λ v. Rests g.D.Disk.words v) c.self.view_is (rests g.D.Disk.words inside.disk inside.place inside.pending inside.buffer.items c.self.invariant)
