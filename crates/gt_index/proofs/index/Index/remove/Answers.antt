use Rattle.std.proofs.Common.{ap, sym, ◌∙◌, ◌≡◌}
use Rattle.gt_index.proofs.FilingLemmas.{kept_out, removed, rises_now}
use Rattle.gt_index.proofs.index.Index.remove.Goals as goal

pub returns-then-holds-clause-index : goal.returns-then-holds-clause-index
returns-then-holds-clause-index g c = λ keeps before index differs now.
    let cmp = g.R.Key.Ord.cmp in
    let total = g.met.R.Key.Ord.total in
    let key = g.R.Keyed.key in
    let places = c.args.self.now.places in
    let same : c.self.inside.places.items ≡ places = ap (λ v. v.places) c.self.view_is in
    let split = c.position-at.ensures.split (rises_now cmp total key keeps c.args.place before c.args.rows.now places index differs) in
    rw (c.remove.ensures.items, same)
    (removed cmp total key keeps c.args.place before c.args.rows.now places index differs c.position-at.result split now
    (sym c.holds.ensures ∙ c.if-holds.true))

pub returns-else-holds-clause-index : goal.returns-else-holds-clause-index
returns-else-holds-clause-index g c = λ keeps before index differs now.
    let cmp = g.R.Key.Ord.cmp in
    let total = g.met.R.Key.Ord.total in
    let key = g.R.Keyed.key in
    let places = c.args.self.now.places in
    let split = c.position-at.ensures.split (rises_now cmp total key keeps c.args.place before c.args.rows.now places index differs) in
    kept_out cmp total key keeps c.args.place before c.args.rows.now places index differs c.position-at.result split now
    (sym c.holds.ensures ∙ c.if-holds.false)
