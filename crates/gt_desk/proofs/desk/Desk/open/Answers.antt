use Rattle.std.proofs.Common.{◌≡◌, ◌∙◌, ◌≤◌, ◌*◌, arith, inl, length, rules, subst, sym}
use Rattle.gt_desk.proofs.Damages.{damaged_as, many_lists}
use Rattle.gt_desk.proofs.Openings.{not_replayed, opened, opened_consistent}
use Rattle.gt_desk.specs.Replay.{IsBadAs, Replays}
use Rattle.gt_journal.specs.JournalText.{IsJournalText}
use Rattle.gt_journal.specs.Opening.{OnceSynced}
use Rattle.gt_journal.specs.Reading.{lists}
use Rattle.gt_desk.proofs.desk.Desk.open.Goals as goal

pub invariant_of-result : goal.invariant_of-result
invariant_of-result g c =
    let w = g.D.Disk.words in
    let j = c.in-Ok.journal in
    let read = lists c.in-Ok.bodies.items in
    let state = c.in-Ok-replay_bodies.state in
    let replays : Replays c.args.setup read state.machine = search (rules, c.in-Ok-replay_bodies.ensures.ok) in
    let passed : c.deref.result.now ≡ c.in-Ok.bodies.items = search rules in
    let counted = subst (λ vs. state.machine.events ≤ length vs) passed c.in-Ok-replay_bodies.ensures.few in
    let few : 9 * state.machine.events ≤ j.place = omega (arith, counted, c.in-Ok.ensures.clear.few, many_lists c.in-Ok.bodies.items) in
    opened_consistent w c.args.setup c.args.disk read state replays j c.in-Ok.ensures.ok c.in-Ok-replay_bodies.ensures.reached few c.in-Ok.ensures.clear.clear c.in-Ok.ensures.images (λ t. sym c.in-Ok.ensures.same.honest ∙ t)

pub returns-in-Ok-replay_bodies-clause-opened : goal.returns-in-Ok-replay_bodies-clause-opened
returns-in-Ok-replay_bodies-clause-opened g c =
    let w = g.D.Disk.words in
    let j = c.in-Ok.journal in
    let read = lists c.in-Ok.bodies.items in
    let state = c.in-Ok-replay_bodies.state in
    let replays : Replays c.args.setup read state.machine = search (rules, c.in-Ok-replay_bodies.ensures.ok) in
    opened w c.args.setup c.args.disk read state replays j c.in-Ok.ensures.ok

pub returns-in-Err-clause-refused : goal.returns-in-Err-clause-refused
returns-in-Err-clause-refused g c = record {
  damaged = λ t. c.refusal-fault.ensures.damaged (g.D.Disk.words.seen c.args.disk) (c.in-Err.ensures.err t).damaged;
  crashes = λ t. (c.in-Err.ensures.err t).any_moment;
}

pub returns-clause-refused : goal.returns-clause-refused
returns-clause-refused g c =
    let w = g.D.Disk.words in
    let read = lists c.in-Ok.bodies.items in
    let bad : IsBadAs c.args.setup read c.in-Err-replay_bodies.fault = search (rules, c.in-Err-replay_bodies.ensures.bad) in
    record {
      damaged = λ t. damaged_as c.args.setup read (w.seen c.args.disk) c.in-Err-replay_bodies.fault bad (inl (c.in-Ok.ensures.ok t).text);
      crashes = λ t.
          let is = c.in-Ok.ensures.ok t in
          not_replayed w c.args.disk c.close.result read is.text c.one_reading.ensures.one_list c.one_reading.ensures.apart (subst (λ x. OnceSynced w c.args.disk x (IsJournalText read)) (sym c.close.ensures.value) is.any_moment);
    }
