-- What comes next for a worker.
use Rattle.std.specs.List.{list_any}
use Rattle.std.specs.Option.{option_map_or}
use Rattle.std.specs.Prelude.{Bool, List, None, Option, Some, [], count_by, false, filter, find, if◌then◌else◌, is_none, is_some, max, nat_lt, not, option_and_then, option_map, unwrap_or, ℕ, ◌&&◌, ◌+◌, ◌==◌, ◌||◌, ◌∷◌}
use Rattle.std.specs.Str.{bytes_eq}
use Rattle.gt_machine.specs.ItemStates.{is_running, is_running_for, is_waiting}
use Rattle.gt_machine.specs.MachineState.{MachineState, task_at}
use Rattle.gt_machine.specs.Need.{is_item_paused, item_lack, of_task}
use Rattle.gt_machine.specs.Next.{Grant, Idle, Next, Refuse, Resume, Sweep}
use Rattle.gt_setup.specs.Setup.{Setup}
use Rattle.gt_subtasks.specs.declared.item.Item.{Item}
use Rattle.gt_tasks.specs.declared.row.TaskRow.{TaskRow}
use Rattle.gt_types.specs.Conflict.{conflicts}
use Rattle.gt_types.specs.SpecParts.{destination_of, source_of}
use Rattle.gt_types.specs.declared.act.Act.{Act}

-- whether the item is made to wait by removals of its task; no task removes anything yet
abbrev pub waits_for_removals : MachineState → Item → Bool
waits_for_removals m item = false

-- whether the item may be tried at k, apart from its right
abbrev pub is_ready : MachineState → ℕ → Item → Bool
is_ready m k item =
    is_waiting item.state && of_task m item (λ task. is_none task.closing) && not (waits_for_removals m item)
    && not (is_item_paused m k item)

-- whether the two acts, each of its task, are in conflict
abbrev pub acts_conflict : TaskRow → Act → TaskRow → Act → Bool
acts_conflict task act other_task other =
    conflicts (source_of task.spec) (destination_of task.spec) act (source_of other_task.spec) (destination_of other_task.spec) other

-- whether the two items are in conflict
abbrev pub items_conflict : MachineState → Item → Item → Bool
items_conflict m item other =
    of_task m item (λ task. of_task m other (λ other_task. acts_conflict task item.act other_task other.act))

-- whether the item conflicts with no running item
abbrev pub is_free : MachineState → Item → Bool
is_free m item = not (list_any (λ other. is_running other.state && items_conflict m item other) m.items)

-- how many items of the owner are running
abbrev pub running_count : MachineState → List ℕ → ℕ
running_count m owner =
    count_by (λ item. is_running item.state && of_task m item (λ task. bytes_eq task.owner owner)) m.items

-- how many items of the item's owner are running
abbrev pub load_of : MachineState → Item → ℕ
load_of m item = option_map_or (λ task. running_count m task.owner) (task_at m item.task) 0

-- whether a comes before b: its owner has fewer running items, or then its task is less, or then its number
abbrev pub is_before : MachineState → Item → Item → Bool
is_before m a b =
    nat_lt (load_of m a) (load_of m b)
    || (load_of m a == load_of m b) && (nat_lt a.task b.task || (a.task == b.task) && nat_lt a.number b.number)

-- the one of the two that comes first
abbrev pub first_of_two : MachineState → Item → Item → Item
first_of_two m item least = if is_before m least item then least else item

-- the item that comes first
abbrev pub first_of : MachineState → List Item → Option Item
first_of m [] = None
first_of m (item ∷ items) = Some (option_map_or (first_of_two m item) (first_of m items) item)

-- the first task that is due at the moment; deadlines end no task yet
abbrev pub due_task : MachineState → ℕ → Option TaskRow
due_task m moment = None

-- the first ready item without its right
abbrev pub refused_item : Setup → MachineState → ℕ → Option Item
refused_item setup m k = find (λ item. is_ready m k item && is_some (item_lack setup m k item)) m.items

-- the ready items with their right that conflict with no running item
abbrev pub grantable_items : Setup → MachineState → ℕ → List Item
grantable_items setup m k =
    filter (λ item. is_ready m k item && is_none (item_lack setup m k item) && is_free m item) m.items

-- the refusal of the item, at the first side that lacks the right
abbrev pub refusal_of : Setup → MachineState → ℕ → Item → Option Next
refusal_of setup m k item = option_map (λ side. Refuse item.number side) (item_lack setup m k item)

-- the first of these that there is
abbrev pub first_some : {X : Type 0} → List (Option X) → Option X
first_some [] = None
first_some (None ∷ os) = first_some os
first_some (Some x ∷ os) = Some x

-- an item that the worker has; else a task that is due; else an item without its right; else the item to be granted
abbrev pub next_at : Setup → MachineState → ℕ → ℕ → Next
next_at setup m worker moment =
    let k = m.events + 1 in
    unwrap_or
    (first_some (
    option_map (λ item. Resume item.number) (find (λ item. is_running_for worker item.state) m.items)
    ∷ option_map (λ task. Sweep task.number) (due_task m moment)
    ∷ option_and_then (refusal_of setup m k) (refused_item setup m k)
    ∷ option_map (λ item. Grant item.number) (first_of m (grantable_items setup m k))
    ∷ []))
    Idle

-- the same for a call at this moment: moments don't go back
abbrev pub next_for : Setup → MachineState → ℕ → ℕ → Next
next_for setup m worker now = next_at setup m worker (max now m.greatest)
