use Rattle.std.proofs.Common.{Some, [], ap, arith, length, max, refl, sym, ◌++◌, ◌∙◌, ◌∷◌, ◌≡◌}
use Rattle.std.proofs.lemmas.Option.{slice_get_read}
use Rattle.std.specs.List.{fold, slice_get}
use Rattle.gt_access.specs.Rule.{access_row, greatest_number, live_access}
use Rattle.gt_access.proofs.NumberLemmas.{live_access-ended, numbers_of-ended}
use Rattle.gt_access.proofs.TableLemmas.{replaced_is}
use Rattle.gt_access.proofs.rules.Rules.replace.Goals as goal

pub add_again-requires-clause-ended : goal.add_again-requires-clause-ended
add_again-requires-clause-ended c = rw c.end.ensures.rows (live_access-ended c.args.at c.args.number c.args.self.now.rows)

pub add_again-requires-clause-given : goal.add_again-requires-clause-given
add_again-requires-clause-given c =
    let after : greatest_number c.end.new.self.rows ≡ greatest_number c.args.self.now.rows =
    ap (λ rows. greatest_number rows) c.end.ensures.rows ∙ ap (fold max 0) (numbers_of-ended c.args.at c.args.number c.args.self.now.rows) in
    let all : greatest_number c.args.self.now.rows ≡ length c.self.inside.newest.items =
    sym (ap (λ v. greatest_number v.rows) c.self.view_is) ∙ c.self.invariant.greatest in
    omega (arith, after, all, ap length c.deref.ensures.value, c.live_at.ensures.number.1)

pub returns-clause-rows : goal.returns-clause-rows
returns-clause-rows c =
    let rows = c.as_slice-rows.result.now in
    let row = c.index-rows-live_at.result in
    let found : slice_get rows c.live_at.result ≡ Some row =
    slice_get_read rows (length rows) c.live_at.result row refl c.live_at.ensures.within c.index-rows-live_at.is in
    let live : live_access c.args.number rows ≡ Some row = sym c.live_at.ensures.row ∙ found in
    let same : rows ≡ c.args.self.now.rows = c.as_slice-rows.ensures ∙ ap (λ v. v.rows) c.self.view_is in
    replaced_is c.args.at c.args.number c.args.next c.args.self.now.rows c.end.new.self.rows c.add_again.new.self.rows row (rw same at live)
    c.end.ensures.rows
    (c.add_again.ensures.rows
    ∙ ap (λ r. c.end.new.self.rows ++ access_row c.args.number c.args.at r.collection c.args.next ∷ []) (sym c.index-rows-live_at.is))
