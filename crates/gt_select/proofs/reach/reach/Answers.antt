use Rattle.std.proofs.Common.{◌∙◌, ◌∷◌, ap, subst, sym, rules, chars}
use Rattle.gt_select.proofs.CharLemmas.{is_match-nil}
use Rattle.gt_select.proofs.PassedLemmas.{Passed, fewer-passed, is_match-passed, is_match-passed_other, is_match-passed_short, is_match-passed_star, is_match_of_end-passed, passed_more, passed_none, shorter-passed}
use Rattle.gt_select.specs.Pattern.{is_match, pieces_after}
use Rattle.gt_select.proofs.reach.reach.Goals as goal

pub pieces-init : goal.pieces-init
pieces-init c = (search rules, search rules, passed_none _ _)

pub returns-in_default : goal.returns-in_default
returns-in_default c =
    is_match-passed _ _ _ _ c.pieces.invariant.2
    ∙ ap (λ l. is_match (pieces_after 0 l) (chars c.pieces.left.now)) c.in_default.ensures.chars
    ∙ is_match-nil c.pieces.left.now (search rules) ∙ sym c.is_empty.ensures

pub returns-then-first-eq42 : goal.returns-then-first-eq42
returns-then-first-eq42 c =
    let at = subst (λ r. Passed (chars c.args.pattern.now) (chars c.args.name.now) r (chars c.pieces.left.now)) c.in-Some.ensures.chars c.pieces.invariant.2 in (
      is_match-passed_star _ _ _ _ _ c.if-first-eq42.true at,
      is_match_of_end-passed _ _ _ _ _ c.if-first-eq42.true at,
      shorter-passed _ _ _ _ _ at,
      fewer-passed _ _ _ _ at,
    )

pub returns-in_default-split_first : goal.returns-in_default-split_first
returns-in_default-split_first c =
    let at = subst (λ r. Passed (chars c.args.pattern.now) (chars c.args.name.now) r (chars c.pieces.left.now)) c.in-Some.ensures.chars c.pieces.invariant.2 in
    is_match-passed_short _ _ _ _ c.if-first-eq42.false
    (subst (Passed (chars c.args.pattern.now) (chars c.args.name.now) (c.in-Some.first ∷ chars c.in-Some.behind.now)) c.in_default-split_first.ensures.chars at)

pub returns-in_default-behind_fit : goal.returns-in_default-behind_fit
returns-in_default-behind_fit c =
    let at = subst (λ r. Passed (chars c.args.pattern.now) (chars c.args.name.now) r (chars c.pieces.left.now)) c.in-Some.ensures.chars c.pieces.invariant.2 in
    is_match-passed_other _ _ _ _ _ _ c.if-first-eq42.false c.in_default-behind_fit.ensures
    (subst (Passed (chars c.args.pattern.now) (chars c.args.name.now) (c.in-Some.first ∷ chars c.in-Some.behind.now)) c.in-Some-split_first.ensures.chars at)

pub pieces-preserved : goal.pieces-preserved
pieces-preserved c =
    let at = subst (λ r. Passed (chars c.args.pattern.now) (chars c.args.name.now) r (chars c.pieces.left.now)) c.in-Some.ensures.chars c.pieces.invariant.2 in (
      search rules,
      search rules,
      passed_more _ _ _ _ _ _ _ c.if-first-eq42.false c.in-Some-behind_fit.ensures.0 c.in-Some-behind_fit.ensures.1
          (subst (Passed (chars c.args.pattern.now) (chars c.args.name.now) (c.in-Some.first ∷ chars c.in-Some.behind.now)) c.in-Some-split_first.ensures.chars at),
    )
