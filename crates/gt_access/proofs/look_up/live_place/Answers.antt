use Rattle.std.proofs.Common.{None, Some, ap, arith, cond, false, get_or, inl, inr, rules, sym, true, ◌-◌, ◌∙◌, ◌≡◌}
use Rattle.gt_access.specs.Rule.{is_live_access, live_access}
use Rattle.gt_access.proofs.NumberLemmas.{last_place, live_access-above, live_access-zero, live_is, place_within}
use Rattle.gt_access.proofs.look_up.live_place.Goals as goal

pub returns-then-number-eq0-clause-row : goal.returns-then-number-eq0-clause-row
returns-then-number-eq0-clause-row c =
    elim c.then-number-eq0.either [
      | inl zero_number ↦ sym (ap (λ n. live_access n c.args.rows.now) zero_number ∙ live_access-zero c.args.rows.now c.args.newest.now c.requires)
      | inr above ↦ sym (live_access-above c.args.number c.args.rows.now c.args.newest.now c.requires above.1)
    ]

pub bounds-rows-place : goal.bounds-rows-place
bounds-rows-place c =
    place_within c.args.number (get_or c.args.newest.now (c.args.number - 1) 0) c.args.rows.now
    (last_place c.args.number c.args.rows.now c.args.newest.now c.requires (omega arith) c.if-number-newest.false)

pub offset_bounds-rows-place : goal.offset_bounds-rows-place
offset_bounds-rows-place c =
    omega (
      arith,
      place_within c.args.number (get_or c.args.newest.now (c.args.number - 1) 0) c.args.rows.now
          (last_place c.args.number c.args.rows.now c.args.newest.now c.requires (omega arith) c.if-number-newest.false),
    )

pub returns-then-is_none-clause-within : goal.returns-then-is_none-clause-within
returns-then-is_none-clause-within c =
    place_within c.args.number (get_or c.args.newest.now (c.args.number - 1) 0) c.args.rows.now
    (last_place c.args.number c.args.rows.now c.args.newest.now c.requires (omega arith) c.if-number-newest.false)

pub returns-then-is_none-clause-row : goal.returns-then-is_none-clause-row
returns-then-is_none-clause-row c =
    let row = c.index-rows-place.result in
    let last = last_place c.args.number c.args.rows.now c.args.newest.now c.requires (omega arith) c.if-number-newest.false in
    let is = live_is c.args.number (get_or c.args.newest.now (c.args.number - 1) 0) c.args.rows.now row c.requires.ended last c.index-rows-place.is in
    let lives : is_live_access row ≡ true = search rules in
    is.0 ∙ sym (is.1 ∙ ap (λ b. cond b (Some row) None) lives)

pub returns-else-is_none-clause-row : goal.returns-else-is_none-clause-row
returns-else-is_none-clause-row c =
    let row = c.index-rows-place.result in
    let last = last_place c.args.number c.args.rows.now c.args.newest.now c.requires (omega arith) c.if-number-newest.false in
    let is = live_is c.args.number (get_or c.args.newest.now (c.args.number - 1) 0) c.args.rows.now row c.requires.ended last c.index-rows-place.is in
    let ended : is_live_access row ≡ false = search rules in
    sym (is.1 ∙ ap (λ b. cond b (Some row) None) ended)
