use Rattle.std.proofs.Common.{Some, ap, arith, length, rules, sym, ◌<◌, ◌^◌, ◌∙◌, ◌≡◌}
use Rattle.gt_setup.specs.Indexed.{first_place, is_collection}
use Rattle.gt_setup.specs.Setup.{Setup}
use Rattle.gt_setup.proofs.PlaceLemmas.{first_place_within}
use Rattle.gt_setup.proofs.setup.Setup.collection_of.Goals as goal

pub overflow_cast-result : goal.overflow_cast-result
overflow_cast-result c =
    let collections = c.self.inside.collections.items in
    let place = c.in-Some.place.now in
    let first : first_place (is_collection c.args.id.now) collections ≡ Some place =
    sym (c.self.invariant.1.collection_ids.first c.args.id.now) ∙ sym c.in-Some.ensures.value in
    let within : place < length collections = first_place_within (is_collection c.args.id.now) collections place first in
    let fits : place < 2 ^ 32 = omega (arith, within, c.self.invariant.0) in
    first_of (omega arith, search (rules, fits), grind (arith, fits))

pub returns-in-Some-clause-within : goal.returns-in-Some-clause-within
returns-in-Some-clause-within c =
    let collections = c.self.inside.collections.items in
    let place = c.in-Some.place.now in
    let first : first_place (is_collection c.args.id.now) collections ≡ Some place =
    sym (c.self.invariant.1.collection_ids.first c.args.id.now) ∙ sym c.in-Some.ensures.value in
    let within : place < length collections = first_place_within (is_collection c.args.id.now) collections place first in
    omega (arith, within, ap (λ (s : Setup). length s.collections) c.self.view_is)
