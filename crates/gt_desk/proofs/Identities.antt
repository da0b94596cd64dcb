-- The identity that the setup names.
use Rattle.std.proofs.Common.{◌≡◌, ℕ, Bool, true, false, List, [], ◌∷◌, Some, refl, sym, ap, ◌∙◌, if◌then◌else◌}
use Rattle.std.proofs.lemmas.Slice.Eq.{bytes_eq-Decides}
use Rattle.std.specs.Option.{option_map}
use Rattle.std.specs.Prelude.{find}
use Rattle.gt_setup.specs.Setup.{Setup, is_identity, who_of}
use Rattle.gt_setup.specs.declared.parts.Identity.{Identity}
use Rattle.gt_types.specs.declared.rule.Who.{Who}

named_in : (identities : List Identity) (id : List ℕ) (who : Who) → option_map (λ i. i.who) (find (is_identity id) identities) ≡ Some who → who.identity ≡ id
named_in [] id who is = absurd (cc)
named_in (first ∷ rest) id who is = by_test (is_identity id first) refl (λ later. named_in rest id who later) is
  where
    by_test : (b : Bool) → is_identity id first ≡ b → (option_map (λ (i : Identity). i.who) (find (is_identity id) rest) ≡ Some who → who.identity ≡ id)
        → option_map (λ (i : Identity). i.who) (if b then Some first else find (is_identity id) rest) ≡ Some who → who.identity ≡ id
    by_test true e go got = let same : first.who ≡ who = cc in ap (λ (w : Who). w.identity) (sym same) ∙ (bytes_eq-Decides first.who.identity id).0 e
    by_test false e go got = go got

pub who_is : (setup : Setup) (id : List ℕ) (who : Who) → who_of setup id ≡ Some who → who.identity ≡ id
who_is setup id who is = named_in setup.identities id who is
