use Rattle.std.proofs.Common.{ap, length, nat_eq, not, sym, ◌∙◌}
use Rattle.std.specs.List.{list_any}
use Rattle.gt_access.specs.Indexed.{is_rule_at}
use Rattle.gt_access.specs.Rule.{is_same_rule}
use Rattle.gt_access.proofs.FrontLemmas.{any_place}
use Rattle.gt_access.proofs.filed.FiledRows.has_same.Goals as goal

pub returns : goal.returns
returns c =
    ap not c.is_empty.ensures
    ∙ ap (λ places. not (nat_eq (length places) 0)) c.live_run.ensures
    ∙ sym (any_place 0 (is_rule_at c.args.collection c.as_slice-names.result.now c.args.spec.now.principal) c.deref.result.now)
    ∙ ap (list_any (is_rule_at c.args.collection c.as_slice-names.result.now c.args.spec.now.principal)) c.deref.ensures.value
    ∙ ap (λ names. list_any (is_rule_at c.args.collection names c.args.spec.now.principal) c.self.inside.rows.items) c.as_slice-names.ensures.value
    ∙ ap (λ v. list_any (is_same_rule c.args.collection c.args.spec.now) v.rows) c.self.view_is
