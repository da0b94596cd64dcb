use Rattle.std.proofs.Common.{arith}
use Rattle.gt_tasks.proofs.FoundLemmas.{filed_reserved}
use Rattle.gt_tasks.proofs.tasks.Tasks.reserve.Goals as goal

pub invariant_of-self-then-more-self : goal.invariant_of-self-then-more-self
invariant_of-self-then-more-self c =
    filed_reserved _ c.self.inside.rows.rows c.self.inside.rows.spare c.self.inside.found c.self.inside.room c.self.invariant _ c.reserve.new.self.spare _ c.args.more
    c.in_ok-reserve.ensures.rows (c.reserve-2.ensures.entries).2 c.in_ok-reserve.ensures.room c.in_ok-reserve-2.ensures.ok
    (omega (arith, c.if-more-len.false, c.len.ensures))

pub invariant_of-self-else-more-self : goal.invariant_of-self-else-more-self
invariant_of-self-else-more-self c =
    filed_reserved _ c.self.inside.rows.rows c.self.inside.rows.spare c.self.inside.found c.self.inside.room c.self.invariant _ c.reserve.new.self.spare _ c.self.inside.room
    c.in_ok-reserve.ensures.rows (c.reserve-2.ensures.entries).2 (omega (arith, c.self.invariant.reserved, c.in_ok-reserve.ensures.kept))
    (omega (arith, c.self.invariant.free, c.reserve-2.ensures.spare)) c.self.invariant.few
