-- What a worker's report does to its item.
use Rattle.std.specs.Option.{option_map_or}
use Rattle.std.specs.Prelude.{None, Option, Some, if◌then◌else◌, nat_le, ℕ, ◌+◌}
use Rattle.gt_machine.specs.Closing.{end_by}
use Rattle.gt_machine.specs.Turn.{Ends, Retries, Turn, checked_in}
use Rattle.gt_subtasks.specs.Setting.{set_item}
use Rattle.gt_subtasks.specs.declared.item.Item.{Item}
use Rattle.gt_subtasks.specs.declared.item.ItemState.{ItemState}
use Rattle.gt_subtasks.specs.declared.item.ItemState.TheVariants.{Failed, Retrying}
use Rattle.gt_types.specs.declared.code.Reason.{Reason}
use Rattle.gt_types.specs.declared.outcome.Outcome.{Outcome}
use Rattle.gt_values.specs.Capped.{capped}

-- an item that is given up is tried again, or ends where its task closes
abbrev pub given_up : Option Reason → ItemState
given_up closing = option_map_or end_by closing Retrying

-- how many faults the attempt adds
abbrev pub faults_in : Turn → ℕ
faults_in (Ends state) = 0
faults_in (Retries code) = 1

-- the state in which the attempt leaves an item with so many faults: where its task isn't closing, the fifth is the last
abbrev pub state_after : Option Reason → ℕ → Turn → ItemState
state_after closing faults (Ends state) = state
state_after None faults (Retries code) = if nat_le 5 faults then Failed code else Retrying
state_after (Some reason) faults (Retries code) = end_by reason

-- the item after the attempt that the event k reports; its faults and its bytes count whatever it comes to
abbrev pub attempted_item : ℕ → Option Reason → Turn → Outcome → Item → Item
attempted_item k closing turn outcome item =
    let faults = item.faults + faults_in turn in
    set_item (state_after closing faults turn) faults (capped (item.checked + checked_in outcome)) k item
