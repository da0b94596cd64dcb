-- What a call of a real device does to its count of faults, which is all that is said of the device.
use Rattle.std.specs.Prelude.{IsErr, OnOk, Result, ◌≡◌, ◌≤◌, ℕ}
use Rattle.gt_causes.specs.Counts.{counted}

-- a call fails exactly where the count rises by one, up to its last number
pub record CountsFaults {T E : Type 0} (old new : ℕ) (result : Result T E) : Type 0 where
  pub ok : OnOk result (new ≡ old)
  pub err : IsErr result → new ≡ counted old
  -- it never falls
  pub later : old ≤ new
