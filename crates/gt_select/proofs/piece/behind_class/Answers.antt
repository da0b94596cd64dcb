use Rattle.std.proofs.Common.{◌≡◌, ◌∙◌, ap, subst, sym, ◌∷◌, Some, not, true, cond, drop}
use Rattle.std.specs.Prelude.{chars}
use Rattle.gt_select.proofs.ClassLemmas.{behind-class, fits-class}
use Rattle.gt_select.specs.Pattern.{is_negated, members_of}
use Rattle.gt_select.proofs.piece.behind_class.Goals as goal
use mathlib.Core.Bool.{beq}

pub returns-then-is_in-negated : goal.returns-then-is_in-negated
returns-then-is_in-negated c =
    let text = chars c.args.rest.now in
    let negated = is_negated text in
    let inside = cond negated (drop 1 text) text in
    let members : members_of inside ≡ Some (c.in-Some.first ∷ chars c.in-Some.inner.now) =
    ap members_of (sym c.without_negation-negated.ensures.members) ∙ c.in-Some.ensures.members in
    let other : not (beq c.is_in_class-is_in.result negated) ≡ true =
    subst (λ n. not (beq c.is_in_class-is_in.result n) ≡ true) c.without_negation-negated.ensures.negated c.if-is_in-negated.true in (
      fits-class negated c.is_in_class-is_in.result c.args.character _ (members_of inside) members c.is_in_class-is_in.ensures other,
      behind-class negated text (chars c.in-Some.behind.now) c.in-Some.first (chars c.in-Some.inner.now) (members_of inside) members
          (c.in-Some.ensures.behind ∙ ap (drop _) c.without_negation-negated.ensures.members),
    )
