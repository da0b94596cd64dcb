use Rattle.std.proofs.Common.{Some, ap, arith, cond, refl, slice_get, sym, ◌-◌, ◌∙◌, ◌≡◌}
use Rattle.std.specs.HashMap.{get}
use Rattle.std.specs.Prelude.{nat_eq}
use Rattle.std.proofs.lemmas.Bool.{eq-eqb}
use Rattle.gt_subtasks.specs.Kept.{IsPart}
use Rattle.gt_subtasks.specs.Tally.{share_of, tally_of}
use Rattle.gt_subtasks.specs.TallySums.{with_share, without_share}
use Rattle.gt_subtasks.specs.declared.item.Item.{Item}
use Rattle.gt_subtasks.proofs.KeptLemmas.{has_tally, kept_set, row_place}
use Rattle.gt_subtasks.proofs.TallyLemmas.{share_is_part}
use Rattle.gt_subtasks.proofs.items.Items.set.Goals as goal

pub without-others-requires : goal.without-others-requires
without-others-requires c =
    let rows = c.self.inside.rows.rows in
    let row = c.in-Some.row.now in
    let at : slice_get rows (c.args.item - 1) ≡ Some row = row_place rows c.args.item row (sym c.in-Some.ensures) in
    let exact : c.tally.result ≡ tally_of row.task rows = c.tally.ensures.exact ∙ ap (λ v. tally_of row.task v.rows) (sym c.self.view_is) in
    let part : IsPart (share_of row) (tally_of row.task rows) = share_is_part row.task rows (c.args.item - 1) row at (eq-eqb row.task row.task refl) in
    rw (c.of.ensures.share, exact) part

pub put_tally-requires : goal.put_tally-requires
put_tally-requires c =
    let rows = c.self.inside.rows.rows in
    let row = c.in-Some.row.now in
    let at : slice_get rows (c.args.item - 1) ≡ Some row = row_place rows c.args.item row (sym c.in-Some.ensures) in
    let part : IsPart (share_of row) (tally_of row.task rows) = share_is_part row.task rows (c.args.item - 1) row at (eq-eqb row.task row.task refl) in
    has_tally c.self.inside.tallies rows row.task (c.self.invariant.exact row.task) part.total

pub invariant_of-self : goal.invariant_of-self
invariant_of-self c =
    let old = c.self.inside in
    let rows = c.self.inside.rows.rows in
    let row = c.in-Some.row.now in
    let at : slice_get rows (c.args.item - 1) ≡ Some row = row_place rows c.args.item row (sym c.in-Some.ensures) in
    let exact : c.tally.result ≡ tally_of row.task rows = c.tally.ensures.exact ∙ ap (λ v. tally_of row.task v.rows) (sym c.self.view_is) in
    let same_row : c.row_mut-row.result.now ≡ row = let found : Some c.row_mut-row.result.now ≡ Some row = sym c.row_mut-row.ensures.row ∙ sym c.in-Some.ensures in cc in
    let same : c.set.new.self.task ≡ row.task = ap (λ (i : Item). i.task) c.set.ensures ∙ ap (λ (i : Item). i.task) same_row in
    let tally : c.with-tally.result ≡ with_share (without_share (tally_of row.task rows) (share_of row)) (share_of c.set.new.self) =
    c.with-tally.ensures
    ∙ ap (λ t. with_share t c.of-2.result)
    (c.without-others.ensures ∙ ap (λ t. without_share t c.of.result) exact ∙ ap (λ t. without_share (tally_of row.task rows) t) c.of.ensures.share)
    ∙ ap (λ t. with_share (without_share (tally_of row.task rows) (share_of row)) t) c.of-2.ensures.share in
    kept_set rows old.rows.spare old.by_task old.tallies old.room c.self.invariant (c.args.item - 1) row c.set.new.self c.put_tally.new.tallies at same
    c.of-2.ensures.small (λ q. c.put_tally.ensures.numbers q ∙ ap (λ t. cond (nat_eq row.task q) (Some t) (get nat_eq old.tallies q)) tally)
    (omega (arith, c.self.invariant.free, c.put_tally.ensures.spare))
