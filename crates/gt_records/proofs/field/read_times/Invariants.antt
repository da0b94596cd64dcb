use Rattle.std.proofs.Common.{◌≡◌, ◌-◌}
use Rattle.gt_records.specs.Reading.{times_at}
use Rattle.gt_records.proofs.Loop.{with_front}
use Rattle.gt_records.proofs.field.read_times.Given as goal

-- what was read, and what is still read
abbrev pub invariant-loop : goal.invariant-loop
invariant-loop g l =
    with_front l.values.items (times_at g.T.Field.read_at (l.count - l.counter) l.from) ≡ times_at g.T.Field.read_at l.count l.fn.from
