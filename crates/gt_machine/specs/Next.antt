-- What comes next for a worker.
use Rattle.std.specs.Prelude.{ℕ}
use Rattle.gt_types.specs.declared.act.Side.{Side}

-- the worker has the item still; the task is due; the item ends without its right; the item is granted; or nothing
pub data Next : Type 0 where
  Resume : ℕ → Next
  Sweep : ℕ → Next
  Refuse : ℕ → Side → Next
  Grant : ℕ → Next
  Idle : Next
