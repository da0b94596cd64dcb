-- What setting an item changes of it.
use Rattle.std.specs.Option.{option_or}
use Rattle.std.specs.Prelude.{None, Option, Some, if◌then◌else◌, ℕ, ◌||◌}
use Rattle.gt_subtasks.specs.Item.{grant_of, has_ended, is_retrying}
use Rattle.gt_subtasks.specs.declared.item.Item.{Item}
use Rattle.gt_subtasks.specs.declared.item.ItemState.{ItemState}

-- the event at which the item ended, if it has in this state
abbrev pub ended_in : ItemState → ℕ → Option ℕ
ended_in state at = if has_ended state then Some at else None

-- the item in this state since the event `at`, with so many faults and bytes checked in all; that it was tried again stays,
-- and its last grant
abbrev pub set_item : ItemState → ℕ → ℕ → ℕ → Item → Item
set_item state faults checked at item =
    record item {
      state = state;
      faults = faults;
      checked = checked;
      tried = is_retrying state || item.tried;
      granted = option_or (grant_of state) item.granted;
      ended = ended_in state at;
    }
