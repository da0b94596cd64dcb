use Rattle.std.proofs.Common.{Err, Ok, Result, Some, ap, arith, cond, sym, true, ℕ, ◌+◌, ◌∙◌, ◌≡◌}
use Rattle.std.specs.HashMap.{get}
use Rattle.std.specs.Prelude.{OnOk, nat_eq}
use Rattle.std.specs.Result.{is_ok}
use Rattle.gt_subtasks.specs.Tally.{share_of, tally_of}
use Rattle.gt_subtasks.specs.TallySums.{with_share}
use Rattle.gt_subtasks.specs.declared.item.Item.{Item}
use Rattle.gt_subtasks.proofs.KeptLemmas.{kept_push}
use Rattle.gt_subtasks.proofs.items.Items.add_item.Goals as goal

on_ok : {X E : Type 0} (r : Result X E) (P : Type 0) → is_ok r ≡ true → OnOk r P → P
on_ok (Ok x) P is told = told
on_ok (Err e) P is told = cc

pub invariant_of-self : goal.invariant_of-self
invariant_of-self c =
    let old = c.self.inside in
    let item : Item = record c.args.item { number = c.len-place.result + 1 } in
    let exact : c.tally.result ≡ tally_of item.task old.rows.rows = c.tally.ensures.exact ∙ ap (λ v. tally_of item.task v.rows) (sym c.self.view_is) in
    let tally : c.with-tally.result ≡ with_share (tally_of item.task old.rows.rows) (share_of item) =
    c.with-tally.ensures ∙ ap (λ t. with_share t c.of.result) exact ∙ ap (λ t. with_share (tally_of item.task old.rows.rows) t) c.of.ensures.share in
    let ok : is_ok c.insert.result ≡ true = sym c.is_ok-counted.ensures.value ∙ c.if-prove.false in
    let updates = on_ok c.insert.result _ ok c.insert.ensures.updates in
    let put : (q : ℕ) → get nat_eq c.insert.new.self q ≡ cond (nat_eq item.task q) (Some (with_share (tally_of item.task old.rows.rows) (share_of item))) (get nat_eq old.tallies q) =
    λ q. updates.0 q ∙ ap (λ t. cond (nat_eq item.task q) (Some t) (get nat_eq old.tallies q)) tally in
    kept_push old.rows.rows old.rows.spare old.by_task old.tallies old.room c.self.invariant item c.len-place.result c.add.new.self.rows c.as_slice.result.now
    c.add.new.self.spare c.insert-2.new.self c.insert.new.self _ c.len-place.ensures c.add.ensures.rows c.as_slice.ensures c.of.ensures.small put c.insert.ensures.spare
    c.insert-2.ensures.index c.insert-2.ensures.spare (omega (arith, c.add.ensures.spare)) (omega (arith, ap (λ v. v.spare) c.self.view_is, c.requires))
