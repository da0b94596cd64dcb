-- What contracts see of the claims.
use Rattle.std.specs.Coded.{Coded, code_by, coded_ℕ, coded×}
use Rattle.std.specs.FinMap.{FinMap, code, find}
use Rattle.std.specs.Ordering.{nat_cmp}
use Rattle.std.specs.Prelude.{List, None, [], refl, ℕ, ◌∷◌, ◌≡◌}

-- the claim of each item that has one, and how many more can be put without taking memory
pub record ClaimTable (X : Type 0) : Type 0 where
  pub claims : FinMap nat_cmp X
  pub spare : ℕ

-- how the claims are coded
abbrev pub claim_table_code : {X : Type 0} → Coded X → Coded (ClaimTable X)
claim_table_code {X} c =
    code_by (FinMap nat_cmp X × ℕ) (coded× (code coded_ℕ c) coded_ℕ) (λ t. (t.claims, t.spare))
    (λ p. record { claims = p.0; spare = p.1 }) (λ _. refl)

-- no two entries are of one item
abbrev pub IsEachOnce : {X : Type 0} → List (ℕ × X) → Type 0
IsEachOnce [] = Unit {0}
IsEachOnce (entry ∷ entries) = (find nat_cmp entry.0 entries ≡ None) × IsEachOnce entries
