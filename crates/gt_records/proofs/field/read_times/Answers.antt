use Rattle.std.proofs.lemmas.Result.{err_from_is_err_and}
use Rattle.gt_records.specs.Reading.{times_at}
use Rattle.gt_records.proofs.Loop.{ends, goes_on, is_done}
use Rattle.gt_records.proofs.field.read_times.Goals as goal

pub returns-in_err-read_from : goal.returns-in_err-read_from
returns-in_err-read_from g c =
    let p = err_from_is_err_and c.from_residual.result c.from_residual.ensures.1 in
    rw (p.1, p.2) (ends g.T.Field.read_at c.in_err-read_from.field-0.0 c.loop.values.items c.args.count c.loop.counter c.loop.from (times_at g.T.Field.read_at c.args.count c.args.from.now) c.loop-test.true c.in_err-read_from.ensures c.loop.invariant)

pub loop-preserved : goal.loop-preserved
loop-preserved g c =
    rw c.in_ok-push.ensures.items (goes_on g.T.Field.read_at c.loop.values.items c.args.count c.loop.counter c.loop.from c.in_ok-read_from.field-0 c.read_from.new.from (times_at g.T.Field.read_at c.args.count c.args.from.now) c.loop-test.true c.in_ok-read_from.ensures c.loop.invariant)

pub returns : goal.returns
returns g c =
    rw c.from_vec.ensures (is_done g.T.Field.read_at c.loop.values.items c.args.count c.loop.counter c.loop.from (times_at g.T.Field.read_at c.args.count c.args.from.now) c.loop-test.false c.loop.invariant)
