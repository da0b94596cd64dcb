use Rattle.std.proofs.Common.{None, Some, ap, cond, false, rules, sym, true, ◌∙◌, ◌≡◌}
use Rattle.std.specs.Option.{option_copied}
use Rattle.gt_pauses.specs.Rule.{is_live_pause, live_pause}
use Rattle.gt_pauses.proofs.NumberLemmas.{live_pause-none, live_pause-row}
use Rattle.gt_pauses.proofs.pauses.Pauses.live.Goals as goal
use Rattle.gt_values.specs.Rows.{row_at}

pub returns-in_err-row : goal.returns-in_err-row
returns-in_err-row c =
    let none : row_at c.self.inside.rows.rows c.args.number ≡ None = sym c.row.ensures ∙ ap option_copied c.in_err-row.was in
    ap option_copied c.from_residual.ensures
    ∙ sym (live_pause-none c.args.number c.self.inside.rows.rows c.self.invariant.numbers none)
    ∙ ap (λ v. live_pause c.args.number v.rows) c.self.view_is

pub returns-then-is_none : goal.returns-then-is_none
returns-then-is_none c =
    let found : row_at c.self.inside.rows.rows c.args.number ≡ Some c.in_ok-row.row.now = sym c.row.ensures ∙ ap option_copied c.in_ok-row.was in
    let lives : is_live_pause c.in_ok-row.row.now ≡ true = search rules in
    sym (live_pause-row c.args.number c.self.inside.rows.rows c.in_ok-row.row.now c.self.invariant.numbers found
    ∙ ap (λ b. cond b (Some c.in_ok-row.row.now) None) lives)
    ∙ ap (λ v. live_pause c.args.number v.rows) c.self.view_is

pub returns-else-is_none : goal.returns-else-is_none
returns-else-is_none c =
    let found : row_at c.self.inside.rows.rows c.args.number ≡ Some c.in_ok-row.row.now = sym c.row.ensures ∙ ap option_copied c.in_ok-row.was in
    let ended : is_live_pause c.in_ok-row.row.now ≡ false = search rules in
    sym (live_pause-row c.args.number c.self.inside.rows.rows c.in_ok-row.row.now c.self.invariant.numbers found
    ∙ ap (λ b. cond b (Some c.in_ok-row.row.now) None) ended)
    ∙ ap (λ v. live_pause c.args.number v.rows) c.self.view_is
