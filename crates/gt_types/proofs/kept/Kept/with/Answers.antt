use Rattle.std.proofs.Common.{rules, subst, sym, true, ◌+◌, ◌≡◌, ◌≤◌}
use Rattle.gt_types.specs.Forms.{is_kept}
use Rattle.gt_types.specs.Kept.{with_flag}
use Rattle.gt_types.specs.declared.kept.Kept.{Kept}
use Rattle.gt_types.proofs.KeptLemmas.{kept_with, set_below}
use Rattle.gt_types.proofs.kept.Kept.with.Goals as goal

pub overflow_add-result-2 : goal.overflow_add-result-2
overflow_add-result-2 c =
    let below : c.args.self.set ≤ c.args.self.given = set_below c.args.self c.requires.good in
    search rules

pub returns-clause-good : goal.returns-clause-good
returns-clause-good c =
    let kept = c.args.self in
    let e : ◌≡◌ {A = Kept} (record { given = kept.given + c.bit_if.result; set = kept.set + c.bit_if-2.result }) (with_flag kept c.args.member c.args.flag) = search rules in
    subst (λ (k : Kept). is_kept k ≡ true) (sym e) (kept_with kept c.args.member c.args.flag c.requires.below c.requires.good)
