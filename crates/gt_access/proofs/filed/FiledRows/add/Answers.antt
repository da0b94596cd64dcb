use Rattle.std.proofs.Common.{[], ap, arith, length, ◌++◌, ◌∙◌, ◌∷◌, ◌≡◌, ◌≤◌}
use Rattle.std.proofs.lemmas.List.{length_push}
use Rattle.std.specs.Vec.{vec_capacity, vec_len}
use Rattle.gt_access.proofs.FiledLemmas.{filed_push}
use Rattle.gt_access.proofs.filed.FiledRows.add.Goals as goal
use Rattle.gt_access.proofs.filed.FiledRows.add.Goals.{else-row-self, then-row-self}

pub invariant_of-self : goal.invariant_of-self
invariant_of-self c =
    let old = c.self.inside in
    let mid = c.if-row-self.self-inside in
    let same_rows : mid.rows ≡ old.rows =
    elim c.if-row-self.branch [
      | then-row-self w ↦ ap (λ s. s.rows) w.self-inside-is
      | else-row-self w ↦ ap (λ s. s.rows) w.self-inside-is
    ] in
    let same_live : mid.live ≡ old.live =
    elim c.if-row-self.branch [
      | then-row-self w ↦ ap (λ s. s.live) w.self-inside-is
      | else-row-self w ↦ ap (λ s. s.live) w.self-inside-is
    ] in
    let same_room : mid.room ≡ old.room =
    elim c.if-row-self.branch [
      | then-row-self w ↦ ap (λ s. s.room) w.self-inside-is
      | else-row-self w ↦ ap (λ s. s.room) w.self-inside-is
    ] in
    let later : (old.changed ≤ mid.changed) × (c.args.row.born ≤ mid.changed) =
    elim c.if-row-self.branch [
      | then-row-self w ↦ let e = ap (λ s. s.changed) w.self-inside-is in (omega (arith, e, w.if-row-self.true), omega (arith, e))
      | else-row-self w ↦ let e = ap (λ s. s.changed) w.self-inside-is in (omega (arith, e), omega (arith, e, w.if-row-self.false))
    ] in
    let pushed : c.push_reserved.new.self.items ≡ old.rows.items ++ c.args.row ∷ [] =
    c.push_reserved.ensures.items ∙ ap (λ v. v.items ++ c.args.row ∷ []) same_rows in
    let last : c.len-place.result ≡ length old.rows.items =
    omega (arith, c.len-place.ensures, c.deref.ensures.len, ap length c.deref.ensures.value, c.push_reserved.ensures.len, ap vec_len same_rows, ap length pushed, length_push old.rows.items c.args.row) in
    filed_push _ _ old.rows.items (vec_capacity old.rows) old.live old.changed old.room c.self.invariant c.args.row c.len-place.result
    c.push_reserved.new.self.items c.deref.result.now (vec_capacity c.push_reserved.new.self) mid.live c.insert.new.self mid.changed _
    c.requires.live last pushed c.deref.ensures.value same_live c.insert.ensures.index c.insert.ensures.spare
    (omega (arith, c.push_reserved.ensures.capacity, ap vec_capacity same_rows)) later.0 later.1
    (omega (arith, same_room, ap (λ v. v.spare) c.self.view_is, c.requires.room))
