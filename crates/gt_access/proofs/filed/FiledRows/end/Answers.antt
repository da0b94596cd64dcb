use Rattle.std.proofs.Common.{Some, ap, arith, get_or, length, refl, set, sym, ◌<◌, ◌∙◌, ◌≡◌, ◌≤◌}
use Rattle.std.proofs.lemmas.Option.{slice_get_read}
use Rattle.std.specs.List.{slice_get}
use Rattle.std.specs.Vec.{vec_capacity}
use Rattle.gt_access.specs.Filed.{with_end}
use Rattle.gt_access.proofs.FiledLemmas.{filed_end, with_end_is}
use Rattle.gt_access.proofs.filed.FiledRows.end.Goals as goal
use Rattle.gt_access.proofs.filed.FiledRows.end.Goals.{After-remove, else-at-self, then-at-self}

same_rows : (c : After-remove) → c.if-at-self.self-inside.rows ≡ c.self.inside.rows
same_rows c =
    elim c.if-at-self.branch [
      | then-at-self w ↦ ap (λ s. s.rows) w.self-inside-is
      | else-at-self w ↦ ap (λ s. s.rows) w.self-inside-is
    ]

-- the row that ends
own : (c : After-remove) → slice_get c.self.inside.rows.items c.args.place ≡ Some c.index_mut.result.now
own c =
    let rows = c.self.inside.rows.items in
    let within : c.args.place < length rows = rw (sym (ap (λ v. v.rows) c.self.view_is)) at c.requires in
    let value : c.index_mut.result.now ≡ get_or rows c.args.place c.index_mut.result.now =
    c.index_mut.ensures.value ∙ ap (λ v. get_or v.items c.args.place c.index_mut.result.now) (same_rows c) in
    slice_get_read rows (length rows) c.args.place c.index_mut.result.now refl within value

written : (c : After-remove)
    → set c.if-at-self.self-inside.rows.items c.args.place (record c.index_mut.result.now { ended = Some c.args.at })
    ≡ set c.self.inside.rows.items c.args.place (record c.index_mut.result.now { ended = Some c.args.at })
written c = ap (λ v. set v.items c.args.place (record c.index_mut.result.now { ended = Some c.args.at })) (same_rows c)

pub invariant_of-self : goal.invariant_of-self
invariant_of-self c =
    let old = c.self.inside in
    let mid = c.if-at-self.self-inside in
    let same_live : mid.live ≡ old.live =
    elim c.if-at-self.branch [
      | then-at-self w ↦ ap (λ s. s.live) w.self-inside-is
      | else-at-self w ↦ ap (λ s. s.live) w.self-inside-is
    ] in
    let same_room : mid.room ≡ old.room =
    elim c.if-at-self.branch [
      | then-at-self w ↦ ap (λ s. s.room) w.self-inside-is
      | else-at-self w ↦ ap (λ s. s.room) w.self-inside-is
    ] in
    let later : (old.changed ≤ mid.changed) × (c.args.at ≤ mid.changed) =
    elim c.if-at-self.branch [
      | then-at-self w ↦ let e = ap (λ s. s.changed) w.self-inside-is in (omega (arith, e, w.if-at-self.true), omega (arith, e))
      | else-at-self w ↦ let e = ap (λ s. s.changed) w.self-inside-is in (omega (arith, e), omega (arith, e, w.if-at-self.false))
    ] in
    filed_end _ _ old.rows.items (vec_capacity old.rows) old.live old.changed old.room c.self.invariant c.args.place c.args.at
    c.index_mut.result.now _ c.deref.result.now _ mid.live c.remove.new.self mid.changed mid.room (own c) refl (written c) c.deref.ensures.value
    same_live c.remove.ensures.index c.remove.ensures.spare (omega (arith, ap vec_capacity (same_rows c))) later.0 later.1 same_room

pub returns-clause-rows : goal.returns-clause-rows
returns-clause-rows c =
    written c
    ∙ sym (with_end_is c.args.at c.self.inside.rows.items c.args.place c.index_mut.result.now (own c))
    ∙ ap (λ v. with_end c.args.at c.args.place v.rows) c.self.view_is
