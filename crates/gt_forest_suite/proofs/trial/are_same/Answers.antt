use Rattle.gt_forest_suite.proofs.trial.are_same.Goals as goal
use Rattle.std.proofs.Common.{ap, ◌∙◌}
use Rattle.std.proofs.lemmas.Cmp.{lists_equiv}
use Rattle.std.specs.Cmp.Lexicographic.{pointwise}
use Rattle.std.specs.Cmp.{IsEquivalence}

pub returns : goal.returns
returns g c same =
    let lists : IsEquivalence (pointwise g.T.PartialEq.eq) = lists_equiv g.met.T.Eq.laws in
    c.eq.ensures ∙ ap (pointwise g.T.PartialEq.eq c.args.found.now) same ∙ lists.refl c.args.found.now
