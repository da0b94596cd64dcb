use Rattle.std.proofs.Common.{ap, sym, ◌∙◌, ◌≡◌, ◌||◌}
use Rattle.std.specs.List.{list_any}
use Rattle.gt_types.specs.Conflict.{meet, touched_spots, written_spot}
use Rattle.gt_claims.proofs.conflict.in_conflict.Goals as goal

pub returns-then-touches : goal.returns-then-touches
returns-then-touches c =
    let claimed = c.args.claim.now in
    let first : list_any (meet (written_spot c.args.source c.args.destination c.args.act.now)) (touched_spots claimed.source claimed.destination claimed.act)
    ≡ c.touches.result =
    ap (λ spot. list_any (meet spot) (touched_spots claimed.source claimed.destination claimed.act))
    (c.written_path.ensures c.args.source c.args.destination)
    ∙ sym c.touches.ensures in
    let second = list_any (meet (written_spot claimed.source claimed.destination claimed.act)) (touched_spots c.args.source c.args.destination c.args.act.now) in
    c.if-touches.true ∙ sym (ap (λ b. b || second) (first ∙ c.if-touches.true))

pub returns-else-touches : goal.returns-else-touches
returns-else-touches c =
    let claimed = c.args.claim.now in
    let first : list_any (meet (written_spot c.args.source c.args.destination c.args.act.now)) (touched_spots claimed.source claimed.destination claimed.act)
    ≡ c.touches.result =
    ap (λ spot. list_any (meet spot) (touched_spots claimed.source claimed.destination claimed.act))
    (c.written_path.ensures c.args.source c.args.destination)
    ∙ sym c.touches.ensures in
    let second = list_any (meet (written_spot claimed.source claimed.destination claimed.act)) (touched_spots c.args.source c.args.destination c.args.act.now) in
    c.touches-else-touches.ensures
    ∙ sym (ap (λ spot. list_any (meet spot) (touched_spots c.args.source c.args.destination c.args.act.now))
    (c.written_path-else-touches.ensures claimed.source claimed.destination))
    ∙ sym (ap (λ b. b || second) (first ∙ c.if-touches.false))
