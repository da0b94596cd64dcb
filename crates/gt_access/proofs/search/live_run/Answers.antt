use Rattle.std.proofs.Common.{refl, sym, ◌∙◌, ◌≡◌}
use Rattle.std.specs.Cmp.Lexicographic.{texts_ties}
use Rattle.std.specs.Ordering.{is_eq}
use Rattle.gt_access.specs.Rule.{is_live_access, same_principal}
use Rattle.gt_access.proofs.FrontLemmas.{key_is, places_agree}
use Rattle.gt_access.proofs.search.live_run.Goals as goal
use Rattle.gt_types.specs.contracts.rule.PrincipalOrd.TheImpl.{ghosts}
use Rattle.gt_types.specs.declared.rule.Principal.{Principal}
use Rattle.gt_types.specs.declared.rule.Principal.TheVariants.{AllAuthenticated, Anonymous, Group, Identity}

ties : (x y : Principal) → is_eq (ghosts.cmp x y) ≡ same_principal x y
ties (Identity a) (Identity b) = sym (texts_ties a b)
ties (Identity a) (Group b) = refl
ties (Identity a) AllAuthenticated = refl
ties (Identity a) Anonymous = refl
ties (Group a) (Identity b) = refl
ties (Group a) (Group b) = sym (texts_ties a b)
ties (Group a) AllAuthenticated = refl
ties (Group a) Anonymous = refl
ties AllAuthenticated (Identity b) = refl
ties AllAuthenticated (Group b) = refl
ties AllAuthenticated AllAuthenticated = refl
ties AllAuthenticated Anonymous = refl
ties Anonymous (Identity b) = refl
ties Anonymous (Group b) = refl
ties Anonymous AllAuthenticated = refl
ties Anonymous Anonymous = refl

pub returns : goal.returns
returns c =
    c.run.ensures is_live_access c.requires
    ∙ places_agree 0 _ _ c.args.rows.now (key_is ghosts.cmp ties c.args.collection c.args.names.now c.args.principal)
