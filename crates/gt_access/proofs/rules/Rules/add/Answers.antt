use Rattle.std.proofs.Common.{[], ap, arith, length, ◌++◌, ◌∙◌, ◌∷◌, ◌≡◌}
use Rattle.gt_access.proofs.TableLemmas.{IsNumbered-added}
use Rattle.gt_access.proofs.rules.Rules.add.Goals as goal

pub invariant_of-self : goal.invariant_of-self
invariant_of-self c =
    let new : c.len-number.result ≡ length c.push_reserved.new.self.items = omega arith in
    IsNumbered-added _ c.self.inside.rows.rows c.add.new.self.rows c.self.inside.newest.items c.push_reserved.new.self.items c.self.invariant
    c.add.ensures.rows (c.push_reserved.ensures.items ∙ ap (λ n. c.self.inside.newest.items ++ n ∷ []) c.len.ensures) new
