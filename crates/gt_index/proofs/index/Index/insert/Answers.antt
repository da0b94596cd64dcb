use Rattle.std.proofs.Common.{ap, rules, sym, ◌∙◌, ◌≡◌}
use Rattle.std.specs.List.{insert}
use Rattle.gt_index.proofs.FilingLemmas.{inserted, kept_there, rises_now}
use Rattle.gt_index.proofs.index.Index.insert.Goals as goal

pub returns-then-not-holds-clause-index : goal.returns-then-not-holds-clause-index
returns-then-not-holds-clause-index g c = λ keeps before index differs now.
    let cmp = g.R.Key.Ord.cmp in
    let total = g.met.R.Key.Ord.total in
    let key = g.R.Keyed.key in
    let places = c.args.self.now.places in
    let same : c.self.inside.places.items ≡ places = ap (λ v. v.places) c.self.view_is in
    let split = c.position-at.ensures.split (rises_now cmp total key keeps c.args.place before c.args.rows.now places index differs) in
    let items : c.insert.new.self.items ≡ insert c.self.inside.places.items c.position-at.result c.args.place = search rules in
    rw (items, same)
    (inserted cmp total key keeps c.args.place before c.args.rows.now places index differs c.position-at.result split now
    (sym c.holds.ensures ∙ c.if-not-holds.true))

pub returns-else-not-holds-clause-index : goal.returns-else-not-holds-clause-index
returns-else-not-holds-clause-index g c = λ keeps before index differs now.
    let cmp = g.R.Key.Ord.cmp in
    let total = g.met.R.Key.Ord.total in
    let key = g.R.Keyed.key in
    let places = c.args.self.now.places in
    let split = c.position-at.ensures.split (rises_now cmp total key keeps c.args.place before c.args.rows.now places index differs) in
    kept_there cmp total key keeps c.args.place before c.args.rows.now places index differs c.position-at.result split now
    (sym c.holds.ensures ∙ c.if-not-holds.false)
