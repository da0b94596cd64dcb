use Rattle.std.proofs.Common.{ap, find, ◌∙◌}
use Rattle.std.specs.Option.{option_map}
use Rattle.std.specs.Prelude.{is_some}
use Rattle.gt_pauses.specs.Indexed.{NoneAfter}
use Rattle.gt_pauses.specs.Paused.{is_paused, least_pause, pauses}
use Rattle.gt_pauses.proofs.NumberLemmas.{is_some-first, least-first}
use Rattle.gt_pauses.proofs.pauses.Pauses.paused_at.Goals as goal

pub paused-requires-clause-coming : goal.paused-requires-clause-coming
paused-requires-clause-coming c =
    let last : NoneAfter c.self.inside.changed c.as_slice-rows.result.now = rw c.as_slice-rows.ensures c.self.invariant.last in
    (c.self.inside.changed, last, c.if-seq-self.true)

pub returns-then-seq-self-clause-least : goal.returns-then-seq-self-clause-least
returns-then-seq-self-clause-least c =
    c.paused.ensures
    ∙ ap (λ rows. option_map (λ row. row.number) (find (pauses c.args.seq c.args.identity.now c.args.collection c.args.act) rows)) c.as_slice-rows.ensures
    ∙ least-first (pauses c.args.seq c.args.identity.now c.args.collection c.args.act) 1 c.self.inside.rows.rows c.self.invariant.numbers
    ∙ ap (λ v. least_pause c.args.seq c.args.identity.now c.args.collection c.args.act v.rows) c.self.view_is

pub returns-then-seq-self-clause-paused : goal.returns-then-seq-self-clause-paused
returns-then-seq-self-clause-paused c =
    ap is_some
    (c.paused.ensures
    ∙ ap (λ rows. option_map (λ row. row.number) (find (pauses c.args.seq c.args.identity.now c.args.collection c.args.act) rows)) c.as_slice-rows.ensures)
    ∙ is_some-first (pauses c.args.seq c.args.identity.now c.args.collection c.args.act) c.self.inside.rows.rows
    ∙ ap (λ v. is_paused c.args.seq c.args.identity.now c.args.collection c.args.act v.rows) c.self.view_is

pub returns-else-seq-self-clause-least : goal.returns-else-seq-self-clause-least
returns-else-seq-self-clause-least c =
    c.paused_on.ensures
    ∙ ap (λ rows. option_map (λ row. row.number) (find (pauses c.args.seq c.args.identity.now c.args.collection c.args.act) rows)) c.as_slice-rows.ensures
    ∙ least-first (pauses c.args.seq c.args.identity.now c.args.collection c.args.act) 1 c.self.inside.rows.rows c.self.invariant.numbers
    ∙ ap (λ v. least_pause c.args.seq c.args.identity.now c.args.collection c.args.act v.rows) c.self.view_is

pub returns-else-seq-self-clause-paused : goal.returns-else-seq-self-clause-paused
returns-else-seq-self-clause-paused c =
    ap is_some
    (c.paused_on.ensures
    ∙ ap (λ rows. option_map (λ row. row.number) (find (pauses c.args.seq c.args.identity.now c.args.collection c.args.act) rows)) c.as_slice-rows.ensures)
    ∙ is_some-first (pauses c.args.seq c.args.identity.now c.args.collection c.args.act) c.self.inside.rows.rows
    ∙ ap (λ v. is_paused c.args.seq c.args.identity.now c.args.collection c.args.act v.rows) c.self.view_is
