-- Identifiers that the desk makes.
use Rattle.std.specs.Int.{bytes_high_first}
use Rattle.std.specs.Prelude.{List, [], ℕ, ◌++◌, ◌<◌, ◌^◌, ◌≡◌, ◌∷◌}

-- the last `count` bytes of the number, the greatest first
abbrev pub bytes_of : ℕ → ℕ → List ℕ
bytes_of count n = bytes_high_first count n

-- the identifier of the thing of this kind and number: a kind is 1 for a submission identifier, 2 for a task, 3 for an
-- access rule, 4 for a pause rule, 5 for a timer
abbrev pub made_id : ℕ → ℕ → ℕ → List ℕ
made_id namespace kind number =
    bytes_of 4 namespace ++ 0 ∷ kind ∷ 128 ∷ 0 ∷ 128 ∷ 0 ∷ [] ++ bytes_of 6 number

-- identifiers that are equal were made under one namespace, of one kind and one number
abbrev pub MadeApart : Type 0
MadeApart = (n m kind sort a b : ℕ) → n < 2 ^ 32 → m < 2 ^ 32 → a < 2 ^ 48 → b < 2 ^ 48
    → made_id n kind a ≡ made_id m sort b → (n ≡ m) × (kind ≡ sort) × (a ≡ b)
