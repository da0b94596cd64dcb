-- The count of a device's faults, and what a failed call says of it.
use Rattle.std.specs.Prelude.{IsErr, Result, min, ℕ, ◌+◌, ◌-◌, ◌^◌, ◌≤◌}

-- the count rose, or stands at the last number of 8 bytes
abbrev pub Rose : ℕ → ℕ → Type 0
Rose before now = min (before + 1) (2 ^ 64 - 1) ≤ now

-- a device failed: its count of faults rose
abbrev pub HasFailed : {D : Type 0} → (D → ℕ) → D → D → Type 0
HasFailed faults old new = Rose (faults old) (faults new)

-- the count doesn't fall, and a refusal is told only where it rose
pub record HasCause {T E : Type 0} (before now : ℕ) (result : Result T E) : Type 0 where
  pub later : before ≤ now
  pub failed : IsErr result → Rose before now
