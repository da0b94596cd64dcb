use Rattle.gt_access.specs.Filed.{NoneAfter}
use Rattle.gt_access.proofs.filed.FiledRows.right_at.Goals as goal

pub right_now-requires-clause-coming : goal.right_now-requires-clause-coming
right_now-requires-clause-coming c =
    let last : NoneAfter c.self.inside.changed c.deref.result.now = rw c.deref.ensures.value c.self.invariant.last in
    (c.self.inside.changed, last, c.if-seq-self.true)
