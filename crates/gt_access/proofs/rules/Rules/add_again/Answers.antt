use Rattle.std.proofs.Common.{ap, arith, length, set, sym, ◌-◌, ◌≡◌, ◌≤◌}
use Rattle.gt_access.proofs.TableLemmas.{IsNumbered-added_again}
use Rattle.gt_access.proofs.rules.Rules.add_again.Goals as goal

pub invariant_of-self : goal.invariant_of-self
invariant_of-self c =
    let rows = c.self.inside.rows.rows in
    let same : c.args.self.now.rows ≡ rows = sym (ap (λ v. v.rows) c.self.view_is) in
    let given : c.args.row.number ≤ length c.self.inside.newest.items = omega (arith, rw same at c.requires.given, c.self.invariant.greatest) in
    IsNumbered-added_again c.args.row rows c.add.new.self.rows c.self.inside.newest.items _ c.self.invariant c.add.ensures.rows
    (ap (set c.self.inside.newest.items (c.args.row.number - 1)) c.len.ensures) (rw same at c.requires.ended) c.requires.from_one given
