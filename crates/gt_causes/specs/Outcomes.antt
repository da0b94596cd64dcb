-- What a crash or a stop may leave, as a test of outcomes: of a disk's files, of a forest's trees.
use Rattle.std.specs.Prelude.{◌≡◌}

-- each new outcome is an old one
abbrev pub NoMore : {A : Type 0} → (A → Type 0) → (A → Type 0) → Type 0
NoMore {A} old new = (c : A) → new c → old c

-- each new outcome is an old one after a step
abbrev pub Follows : {A : Type 0} → (A → A → Type 0) → (A → Type 0) → (A → Type 0) → Type 0
Follows {A} step old new = (c : A) → new c → (d : A) × old d × step d c

-- this outcome and no other
abbrev pub Only : {A : Type 0} → A → (A → Type 0) → Type 0
Only {A} it outcomes = (c : A) → outcomes c → c ≡ it
