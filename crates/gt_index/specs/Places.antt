-- What contracts see of an index.
use Rattle.std.specs.Coded.{Coded, code_by, coded_list, coded_ℕ, coded×}
use Rattle.std.specs.Prelude.{List, refl, ℕ}

-- the places, and how many more can be inserted without taking memory
pub record Places : Type 0 where
  pub places : List ℕ
  pub spare : ℕ

-- how an index is coded
abbrev pub places_code : Coded Places
places_code =
    code_by (List ℕ × ℕ) (coded× (coded_list coded_ℕ) coded_ℕ) (λ p. (p.places, p.spare)) (λ p. record { places = p.0; spare = p.1 }) (λ _. refl)
