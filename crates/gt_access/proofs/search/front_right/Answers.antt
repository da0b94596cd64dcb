use Rattle.gt_access.specs.Best.{rank}
use Rattle.gt_access.proofs.FrontLemmas.{group_end, group_init, group_step}
use Rattle.gt_access.proofs.search.front_right.Goals as goal

pub loop-group-init : goal.loop-group-init
loop-group-init c =
    group_init c.args.collection c.args.names.now c.args.rows.now (rank c.greater-best.result) (rank c.greater.result) (rank c.live_right-own.result)
    (rank c.live_right-all.result) (rank c.live_right-any.result) _ _ _ c.greater-best.ensures c.greater.ensures c.live_right-own.ensures
    c.live_right-all.ensures c.live_right-any.ensures

pub loop-group-preserved : goal.loop-group-preserved
loop-group-preserved c =
    group_step c.args.collection c.args.names.now c.args.rows.now c.as_slice-group-items.result.now c.loop-group.group-index c.group-item.result _
    (rank c.loop-group.best) (rank c.live_right-group.result) (rank c.greater-best-in-loop-group.result) c.loop-group-test.true c.group-item.is
    c.loop-group.invariant c.live_right-group.ensures c.greater-best-in-loop-group.ensures

pub returns : goal.returns
returns c =
    group_end c.args.collection c.args.names.now c.args.who.now c.args.rows.now c.as_slice-group-items.result.now c.loop-group.group-index
    (rank c.loop-group.best) c.loop-group-test.false c.as_slice-group-items.ensures c.loop-group.invariant
