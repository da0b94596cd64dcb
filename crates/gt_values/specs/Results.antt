-- Answers that may be a fault.
use Rattle.std.specs.Prelude.{Err, IfErr, Ok, Result, ◌≡◌, ◌⊎◌}

-- what comes next where the first part gave a value, and otherwise its fault
infixl 10 ◌>>=◌
abbrev pub ◌>>=◌ : {A B E : Type 0} → Result A E → (A → Result B E) → Result B E
Ok value >>= next = next value
Err fault >>= next = Err fault

-- a fault of the result is want of memory, or exactly that of the answer
abbrev pub FaultsAs : {A B E : Type 0} → E → Result A E → Result B E → Type 0
FaultsAs memory answer result = IfErr result (λ fault. (fault ≡ memory) ⊎ (answer ≡ Err fault))
