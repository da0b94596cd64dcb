-- What the search for an owner says of the setup.
use Rattle.std.proofs.Common.{Err, List, None, Ok, Some, find, map, not, refl, sym, ℕ, ◌≡◌}
use Rattle.gt_setup.specs.Grammar.{owned}
use Rattle.gt_setup.specs.Setup.{Setup, has_identity}
use Rattle.gt_setup.specs.declared.fault.SetupFault.TheVariants.{UnknownIdentity}
use Rattle.gt_setup.specs.declared.parts.Collection.{Collection}

pub owner_unknown : (setup : Setup) (collections : List Collection) (id : List ℕ) → collections ≡ setup.collections
    → Some id ≡ find (λ owner. not (has_identity setup owner)) (map (λ c. c.owner) collections) → owned setup ≡ Err (UnknownIdentity id)
unfolding owned
owner_unknown setup collections id e f =
    let found : find (λ owner. not (has_identity setup owner)) (map (λ c. c.owner) setup.collections) ≡ Some id = rw (← e) (sym f) in
    rw found refl

pub owners_known : (setup : Setup) (collections : List Collection) → collections ≡ setup.collections
    → None ≡ find (λ owner. not (has_identity setup owner)) (map (λ c. c.owner) collections) → owned setup ≡ Ok setup
unfolding owned
owners_known setup collections e f =
    let found : find (λ owner. not (has_identity setup owner)) (map (λ c. c.owner) setup.collections) ≡ None = rw (← e) (sym f) in
    rw found refl
