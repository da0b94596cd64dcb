use Rattle.std.proofs.Common.{None, [], ap, arith, length, refl, ◌+◌, ◌++◌, ◌∙◌, ◌∷◌, ◌≡◌, ◌≤◌}
use Rattle.gt_pauses.specs.declared.row.PauseRow.{PauseRow}
use Rattle.gt_pauses.proofs.FiledLemmas.{filed_push}
use Rattle.gt_pauses.proofs.pauses.Pauses.add.Goals as goal
use Rattle.gt_pauses.proofs.pauses.Pauses.add.Goals.{else-born-self, then-born-self}

pub invariant_of-self : goal.invariant_of-self
invariant_of-self c =
    let old = c.self.inside in
    let mid = c.if-born-self.self-inside in
    let row : PauseRow = record { number = c.len-place.result + 1; spec = c.args.spec; born = c.args.born; ended = None } in
    let same_rows : mid.rows ≡ old.rows =
    elim c.if-born-self.branch [
      | then-born-self w ↦ ap (λ s. s.rows) w.self-inside-is
      | else-born-self w ↦ ap (λ s. s.rows) w.self-inside-is
    ] in
    let same_live : mid.live ≡ old.live =
    elim c.if-born-self.branch [
      | then-born-self w ↦ ap (λ s. s.live) w.self-inside-is
      | else-born-self w ↦ ap (λ s. s.live) w.self-inside-is
    ] in
    let same_room : mid.room ≡ old.room =
    elim c.if-born-self.branch [
      | then-born-self w ↦ ap (λ s. s.room) w.self-inside-is
      | else-born-self w ↦ ap (λ s. s.room) w.self-inside-is
    ] in
    let later : (old.changed ≤ mid.changed) × (c.args.born ≤ mid.changed) =
    elim c.if-born-self.branch [
      | then-born-self w ↦ let e = ap (λ s. s.changed) w.self-inside-is in (omega (arith, e, w.if-born-self.true), omega (arith, e))
      | else-born-self w ↦ let e = ap (λ s. s.changed) w.self-inside-is in (omega (arith, e), omega (arith, e, w.if-born-self.false))
    ] in
    let number : row.number ≡ length old.rows.rows + 1 = ap (λ n. n + 1) c.len-place.ensures in
    filed_push _ _ old.rows.rows old.rows.spare old.live old.changed old.room c.self.invariant row c.len-place.result c.add.new.self.rows
    c.as_slice.result.now c.add.new.self.spare mid.live c.add-2.new.self mid.changed _ refl number c.len-place.ensures
    (c.add.ensures.rows ∙ ap (λ v. v.rows ++ row ∷ []) same_rows) c.as_slice.ensures same_live c.add-2.ensures.index c.add-2.ensures.spare
    (omega (arith, c.add.ensures.spare, ap (λ v. v.spare) same_rows)) later.0 later.1
    (omega (arith, same_room, ap (λ v. v.spare) c.self.view_is, c.requires))
