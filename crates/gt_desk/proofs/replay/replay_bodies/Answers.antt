use Rattle.std.proofs.Common.{rules, arith, Err, ap, sym, ◌<◌, ◌≡◌, ◌∙◌, [], length, get_or}
use Rattle.gt_desk.proofs.Damages.{bad_at, body_at, many_lists, replays_more}
use Rattle.gt_journal.specs.Reading.{lists}
use Rattle.gt_desk.proofs.replay.replay_bodies.Goals as goal

pub returns-in-Err-Body-clause-bad : goal.returns-in-Err-Body-clause-bad
returns-in-Err-Body-clause-bad c =
    let bodies = c.args.bodies.now in
    let i = c.loop-at.at in
    let inside : i < length bodies = omega (arith, c.loop-at-test.true) in
    let many : i < length (lists bodies) = omega (arith, inside, many_lists bodies) in
    let passed : c.deref.result.now ≡ c.index-bodies-at.result.items = search rules in
    let here : get_or (lists bodies) i [] ≡ c.deref.result.now = body_at bodies i c.index-bodies-at.result inside c.index-bodies-at.is ∙ sym passed in
    bad_at c.args.setup.now (lists bodies) i c.deref.result.now c.loop-at.state.machine c.loop-at.invariant.so_far many here
    (c.in-Err-Body.ensures.bad (ap (λ e. Err e) c.in-Err-Body.field-0-is))

pub loop-at-preserved : goal.loop-at-preserved
loop-at-preserved c =
    let bodies = c.args.bodies.now in
    let i = c.loop-at.at in
    let inside : i < length bodies = omega (arith, c.loop-at-test.true) in
    let many : i < length (lists bodies) = omega (arith, inside, many_lists bodies) in
    let passed : c.deref.result.now ≡ c.index-bodies-at.result.items = search rules in
    let here : get_or (lists bodies) i [] ≡ c.deref.result.now = body_at bodies i c.index-bodies-at.result inside c.index-bodies-at.is ∙ sym passed in
    let made = c.in-Ok.ensures.ok in
    record {
      reached = c.replay_body.ensures.reached;
      count = omega (arith, c.replay_body.ensures.counted, c.loop-at.invariant.count);
      so_far = replays_more c.args.setup.now (lists bodies) i c.deref.result.now c.loop-at.state.machine c.replay_body.new.state.machine made.0 c.loop-at.invariant.so_far many here made.1 (c.record_text_reads_back.ensures made.0 made.1.recordable) made.2;
    }
