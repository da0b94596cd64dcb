use Rattle.gt_disk.specs.Images.{fresh}
use Rattle.gt_disk.specs.MemFile.{step_of, steps_of}
use Rattle.gt_disk.proofs.KeptLemmas.{again_more, step_at, step_below}
use Rattle.gt_disk.proofs.crash.kept_file.Goals as goal

pub loop-call-preserved : goal.loop-call-preserved
loop-call-preserved c =
    let l = c.loop-call in
    again_more c.args.keep (fresh c.args.start.now) (steps_of c.args.noted.now) l.call-index (step_of c.call-item.result) l.seen.items l.left.items c.call_again.new.seen.items c.call_again.new.left.items
    l.invariant (step_below c.args.noted.now l.call-index c.loop-call-test.true) (step_at c.args.noted.now l.call-index c.call-item.result c.loop-call-test.true c.call-item.is) c.in_ok-call_again.ensures
