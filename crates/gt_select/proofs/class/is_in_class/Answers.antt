use Rattle.std.proofs.Common.{◌∙◌, ◌∷◌, ap, sym, rules}
use Rattle.std.specs.Prelude.{chars}
use Rattle.gt_select.proofs.ClassLemmas.{is_in-first, is_in-later}
use Rattle.gt_select.specs.Pattern.{is_in, ranges}
use Rattle.gt_select.proofs.class.is_in_class.Goals as goal

pub returns-then-is_between : goal.returns-then-is_between
returns-then-is_between c =
    sym (c.members.invariant.1
    ∙ is_in-first c.args.character c.members.low c.range_end-high.result.0 (c.members.low ∷ chars c.members.rest.now) _ c.range_end-high.ensures.range
    (sym c.is_between.ensures ∙ c.if-is_between.true))

pub returns-in_default : goal.returns-in_default
returns-in_default c =
    sym (c.members.invariant.1
    ∙ is_in-later c.args.character c.members.low c.range_end-high.result.0 (c.members.low ∷ chars c.members.rest.now) _ c.range_end-high.ensures.range
    (sym c.is_between.ensures ∙ c.if-is_between.false)
    ∙ ap (λ l. is_in c.args.character (ranges l)) c.in_default.ensures.chars)

pub members-preserved : goal.members-preserved
members-preserved c = (
  search rules,
  c.members.invariant.1
      ∙ is_in-later c.args.character c.members.low c.range_end-high.result.0 (c.members.low ∷ chars c.members.rest.now) _ c.range_end-high.ensures.range
      (sym c.is_between.ensures ∙ c.if-is_between.false)
      ∙ ap (λ l. is_in c.args.character (ranges l)) c.in-Some.ensures.chars,
)
