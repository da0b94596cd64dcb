use Rattle.std.proofs.Common.{Some, ap, arith, refl, set, sym, ◌-◌, ◌∙◌, ◌≡◌, ◌≤◌}
use Rattle.std.specs.Prelude.{IsSome}
use Rattle.gt_pauses.specs.Indexed.{IsNumberedFrom}
use Rattle.gt_pauses.specs.Rule.{ended_pause, live_pause}
use Rattle.gt_pauses.proofs.FiledLemmas.{filed_end}
use Rattle.gt_pauses.proofs.NumberLemmas.{IsNumberedFrom-ended, ended_is, row_place, row_there}
use Rattle.gt_pauses.proofs.pauses.Pauses.end.Goals as goal
use Rattle.gt_pauses.proofs.pauses.Pauses.end.Goals.{After-end, else-at-self, then-at-self}
use Rattle.gt_values.specs.Rows.{row_at}

pub row_mut-requires : goal.row_mut-requires
row_mut-requires c =
    let same : c.args.self.now.rows ≡ c.self.inside.rows.rows = sym (ap (λ v. v.rows) c.self.view_is) in
    let live : IsSome (live_pause c.args.number c.self.inside.rows.rows) = rw same at c.requires in
    let there = row_there c.args.number c.self.inside.rows.rows c.self.invariant.numbers live in
    let same_rows : c.if-at-self.self-inside.rows ≡ c.self.inside.rows =
    elim c.if-at-self.branch [
      | then-at-self w ↦ ap (λ s. s.rows) w.self-inside-is
      | else-at-self w ↦ ap (λ s. s.rows) w.self-inside-is
    ] in
    rw same_rows there

same_rows : (c : After-end) → c.if-at-self.self-inside.rows ≡ c.self.inside.rows
same_rows c =
    elim c.if-at-self.branch [
      | then-at-self w ↦ ap (λ s. s.rows) w.self-inside-is
      | else-at-self w ↦ ap (λ s. s.rows) w.self-inside-is
    ]

-- the row that ends
own : (c : After-end) → row_at c.self.inside.rows.rows c.args.number ≡ Some c.row_mut.result.now
own c = sym (ap (λ v. row_at v.rows c.args.number) (same_rows c)) ∙ c.row_mut.ensures.row

-- what the write leaves
written : (c : After-end)
    → set c.if-at-self.self-inside.rows.rows (c.args.number - 1) (record c.row_mut.result.now { ended = Some c.args.at })
    ≡ set c.self.inside.rows.rows (c.args.number - 1) (record c.row_mut.result.now { ended = Some c.args.at })
written c = ap (λ v. set v.rows (c.args.number - 1) (record c.row_mut.result.now { ended = Some c.args.at })) (same_rows c)

ended : (c : After-end)
    → set c.if-at-self.self-inside.rows.rows (c.args.number - 1) (record c.row_mut.result.now { ended = Some c.args.at })
    ≡ ended_pause c.args.at c.args.number c.self.inside.rows.rows
ended c =
    let same : c.args.self.now.rows ≡ c.self.inside.rows.rows = sym (ap (λ v. v.rows) c.self.view_is) in
    let live : IsSome (live_pause c.args.number c.self.inside.rows.rows) = rw same at c.requires in
    written c ∙ ended_is c.args.at c.args.number c.self.inside.rows.rows c.row_mut.result.now c.self.invariant.numbers live (own c)

pub invariant_of-self : goal.invariant_of-self
invariant_of-self c =
    let old = c.self.inside in
    let mid = c.if-at-self.self-inside in
    let same_live : mid.live ≡ old.live =
    elim c.if-at-self.branch [
      | then-at-self w ↦ ap (λ s. s.live) w.self-inside-is
      | else-at-self w ↦ ap (λ s. s.live) w.self-inside-is
    ] in
    let same_room : mid.room ≡ old.room =
    elim c.if-at-self.branch [
      | then-at-self w ↦ ap (λ s. s.room) w.self-inside-is
      | else-at-self w ↦ ap (λ s. s.room) w.self-inside-is
    ] in
    let later : (old.changed ≤ mid.changed) × (c.args.at ≤ mid.changed) =
    elim c.if-at-self.branch [
      | then-at-self w ↦ let e = ap (λ s. s.changed) w.self-inside-is in (omega (arith, e, w.if-at-self.true), omega (arith, e))
      | else-at-self w ↦ let e = ap (λ s. s.changed) w.self-inside-is in (omega (arith, e), omega (arith, e, w.if-at-self.false))
    ] in
    let numbers : IsNumberedFrom 1 (set mid.rows.rows (c.args.number - 1) (record c.row_mut.result.now { ended = Some c.args.at })) =
    rw (ended c) (IsNumberedFrom-ended c.args.at c.args.number 1 old.rows.rows c.self.invariant.numbers) in
    filed_end _ _ old.rows.rows old.rows.spare old.live old.changed old.room c.self.invariant (c.args.number - 1) c.args.at c.row_mut.result.now
    _ c.as_slice.result.now _ mid.live c.end.new.self mid.changed mid.room (row_place c.args.number old.rows.rows c.row_mut.result.now (own c)) refl
    (written c) c.as_slice.ensures same_live numbers c.end.ensures.index c.end.ensures.spare (omega (arith, ap (λ v. v.spare) (same_rows c)))
    later.0 later.1 same_room

pub returns-clause-rows : goal.returns-clause-rows
returns-clause-rows c = ended c ∙ ap (λ v. ended_pause c.args.at c.args.number v.rows) c.self.view_is
