use Rattle.std.proofs.Common.{arith, length, slice_get, ◌<◌}
use Rattle.gt_subtasks.proofs.PlaceLemmas.{row_passed, row_pushed}
use Rattle.gt_subtasks.proofs.items.rows_at.Goals as goal
use Rattle.gt_subtasks.proofs.items.rows_at.Goals.{in-Some+in_ok-push, in_default}

-- the place has a row, or none
pub loop-place-preserved : goal.loop-place-preserved
loop-place-preserved c =
    let within : c.loop-place.place-index < length c.args.places.now = omega (arith, c.loop-place-test.true) in
    elim c.match-row_in.branch [
      | in-Some+in_ok-push w ↦ rw (w.found-is, w.in_ok-push.ensures.items) (row_pushed (λ item. item.now) (slice_get c.args.rows.now) c.args.places.now c.loop-place.place-index
          c.loop-place.found.items w.in-Some.row c.row_in.result within c.row_in.ensures w.in-Some.is c.loop-place.invariant)
      | in_default w ↦ rw w.found-is (row_passed (λ item. item.now) (slice_get c.args.rows.now) c.args.places.now c.loop-place.place-index
          c.loop-place.found.items c.row_in.result within c.row_in.ensures w.in_default.not-Some c.loop-place.invariant)
    ]
