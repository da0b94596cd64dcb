-- How items stand with workers.
use Rattle.std.specs.Option.{option_map_or}
use Rattle.std.specs.Prelude.{Bool, None, Option, Some, false, is_some, true, ℕ, ◌==◌}
use Rattle.gt_subtasks.specs.Setting.{set_item}
use Rattle.gt_subtasks.specs.declared.item.Item.{Item}
use Rattle.gt_subtasks.specs.declared.item.ItemState.{ItemState}
use Rattle.gt_subtasks.specs.declared.item.ItemState.TheVariants.{Canceled, Expired, Failed, Pending, Retrying, Running, Skipped, Succeeded}
use Rattle.gt_types.specs.declared.code.Code.{Code}

-- the worker that has an item, and the event that gave it
pub record Holder : Type 0 where
  pub worker : ℕ
  pub event : ℕ

-- who has an item in this state
abbrev pub holder_of : ItemState → Option Holder
holder_of Pending = None
holder_of (Running worker grant) = Some (record { worker = worker; event = grant })
holder_of Retrying = None
holder_of (Succeeded how) = None
holder_of (Failed code) = None
holder_of (Skipped code) = None
holder_of Canceled = None
holder_of Expired = None

-- whether a worker has it
abbrev pub is_running : ItemState → Bool
is_running state = is_some (holder_of state)

-- whether this worker has it
abbrev pub is_running_for : ℕ → ItemState → Bool
is_running_for worker state = option_map_or (λ holder. holder.worker == worker) (holder_of state) false

-- whether it waits for a worker
abbrev pub is_waiting : ItemState → Bool
is_waiting Pending = true
is_waiting (Running worker grant) = false
is_waiting Retrying = true
is_waiting (Succeeded how) = false
is_waiting (Failed code) = false
is_waiting (Skipped code) = false
is_waiting Canceled = false
is_waiting Expired = false

-- the code with which it failed
abbrev pub failure_in : ItemState → Option Code
failure_in Pending = None
failure_in (Running worker grant) = None
failure_in Retrying = None
failure_in (Succeeded how) = None
failure_in (Failed code) = Some code
failure_in (Skipped code) = None
failure_in Canceled = None
failure_in Expired = None

-- the item in this state since the event k, with the faults and the bytes that it had
abbrev pub with_state : ℕ → ItemState → Item → Item
with_state k state item = set_item state item.faults item.checked k item
