use Rattle.std.proofs.Common.{arith, get_or, ◌+◌, ◌-◌, ◌≡◌}
use Rattle.gt_access.specs.Indexed.{last_of, numbers_of}
use Rattle.gt_access.proofs.NumberLemmas.{last_place, live_at_place, live_number, place_within}
use Rattle.gt_access.proofs.look_up.live_at.Goals as goal

pub overflow_sub-result : goal.overflow_sub-result
overflow_sub-result c = (live_number c.args.number c.args.rows.now c.args.newest.now c.requires.index c.requires.live).0

pub bounds-newest-number : goal.bounds-newest-number
bounds-newest-number c =
    let given = live_number c.args.number c.args.rows.now c.args.newest.now c.requires.index c.requires.live in
    omega (arith, given.0, given.1)

pub offset_bounds-newest-number : goal.offset_bounds-newest-number
offset_bounds-newest-number c =
    let given = live_number c.args.number c.args.rows.now c.args.newest.now c.requires.index c.requires.live in
    omega (arith, given.0, given.1)

pub returns : goal.returns
returns c =
    let given = live_number c.args.number c.args.rows.now c.args.newest.now c.requires.index c.requires.live in
    let place = get_or c.args.newest.now (c.args.number - 1) 0 in
    let last : last_of c.args.number (numbers_of c.args.rows.now) ≡ place + 1 =
    last_place c.args.number c.args.rows.now c.args.newest.now c.requires.index given.0 given.1 in
    record {
      within = place_within c.args.number place c.args.rows.now last;
      row = live_at_place c.args.number place c.args.rows.now c.requires.index.ended last c.requires.live;
      last = last;
      number = given;
    }
