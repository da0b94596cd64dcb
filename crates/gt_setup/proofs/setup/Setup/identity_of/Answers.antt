use Rattle.std.proofs.Common.{Some, ap, arith, find, length, option_map, rules, sym, ◌<◌, ◌∙◌, ◌≡◌}
use Rattle.sha2.specs.Sha256.{sha256}
use Rattle.gt_setup.specs.Indexed.{first_place}
use Rattle.gt_setup.specs.Setup.{Setup, lists}
use Rattle.gt_setup.specs.declared.parts.Identity.{Identity}
use Rattle.gt_setup.proofs.PlaceLemmas.{first_place_within, found_at_place}
use Rattle.gt_setup.proofs.setup.Setup.identity_of.Goals as goal

pub index-requires : goal.index-requires
index-requires c =
    let identities = c.self.inside.identities.items in
    let place = c.in-Some.place.now in
    let digest = c.from_bytes-digest.result in
    let first : first_place (lists digest) identities ≡ Some place =
    sym (c.self.invariant.1.identity_tokens.first digest) ∙ sym c.in-Some.ensures.value in
    let within : place < length identities = first_place_within (lists digest) identities place first in
    first_of (omega (arith, within), search (rules, within), grind (arith, within))

pub returns-in-Some : goal.returns-in-Some
returns-in-Some c =
    let identities = c.self.inside.identities.items in
    let place = c.in-Some.place.now in
    let digest = c.from_bytes-digest.result in
    let identity = c.index.result.now in
    let is : digest ≡ sha256 c.args.token.now = c.from_bytes-digest.ensures ∙ c.digest.ensures ∙ ap sha256 c.as_bytes.ensures.value in
    let first : first_place (lists digest) identities ≡ Some place =
    sym (c.self.invariant.1.identity_tokens.first digest) ∙ sym c.in-Some.ensures.value in
    let found : find (lists digest) identities ≡ Some identity = found_at_place (lists digest) identities place identity first c.index.ensures in
    sym
    (ap (λ (s : Setup). option_map (λ (i : Identity). i.who) (find (lists (sha256 c.args.token.now)) s.identities)) (sym c.self.view_is)
    ∙ ap (λ q. option_map (λ (i : Identity). i.who) (find (lists q) identities)) (sym is)
    ∙ ap (λ o. option_map (λ (i : Identity). i.who) o) found)
