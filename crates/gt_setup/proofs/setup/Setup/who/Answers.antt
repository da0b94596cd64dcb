use Rattle.std.proofs.Common.{Some, arith, length, rules, sym, ◌<◌, ◌∙◌, ◌≡◌}
use Rattle.gt_setup.specs.Indexed.{first_place}
use Rattle.gt_setup.specs.Setup.{is_identity}
use Rattle.gt_setup.proofs.PlaceLemmas.{first_place_within}
use Rattle.gt_setup.proofs.setup.Setup.who.Goals as goal

pub index-requires : goal.index-requires
index-requires c =
    let identities = c.self.inside.identities.items in
    let place = c.in-Some.place.now in
    let first : first_place (is_identity c.args.identity.now) identities ≡ Some place =
    sym (c.self.invariant.1.identity_ids.first c.args.identity.now) ∙ sym c.in-Some.ensures.value in
    let within : place < length identities = first_place_within (is_identity c.args.identity.now) identities place first in
    first_of (omega (arith, within), search (rules, within), grind (arith, within))
