-- What the events of items do, and when they have no step.
use Rattle.std.specs.List.{list_any}
use Rattle.std.specs.Option.{option_map_or}
use Rattle.std.specs.Prelude.{Bool, Option, Some, false, if◌then◌else◌, is_none, map, option_and_then, option_map, ℕ, ◌&&◌, ◌+◌, ◌==◌}
use Rattle.gt_machine.specs.Closing.{closing_of, put_item, with_item}
use Rattle.gt_machine.specs.ItemStates.{is_running, with_state}
use Rattle.gt_machine.specs.MachineState.{MachineState, item_at, task_at}
use Rattle.gt_machine.specs.Need.{item_lacks}
use Rattle.gt_machine.specs.Next.{Grant, Idle, Next, Refuse, Resume, Sweep}
use Rattle.gt_machine.specs.Report.{attempted_item, given_up}
use Rattle.gt_machine.specs.RuleSteps.{only_if}
use Rattle.gt_machine.specs.Schedule.{due_task, next_at, refused_item}
use Rattle.gt_machine.specs.Turn.{Turn, failure_of, turn_of}
use Rattle.gt_machine.specs.WorkerGrant.{worker_grant}
use Rattle.gt_setup.specs.Setup.{Setup}
use Rattle.gt_subtasks.specs.declared.item.Item.{Item}
use Rattle.gt_subtasks.specs.declared.item.ItemState.TheVariants.{Running}
use Rattle.gt_tasks.specs.declared.row.TaskRow.{TaskRow}
use Rattle.gt_types.specs.Outcome.{outcome_fits}
use Rattle.gt_types.specs.declared.act.Side.{Side}
use Rattle.gt_types.specs.declared.code.Code.TheVariants.{PermissionDenied}
use Rattle.gt_types.specs.declared.outcome.Outcome.{Outcome}

-- whether the item of this number is to be granted
abbrev pub is_grant_of : ℕ → Next → Bool
is_grant_of number (Resume item) = false
is_grant_of number (Sweep task) = false
is_grant_of number (Refuse item side) = false
is_grant_of number (Grant item) = item == number
is_grant_of number Idle = false

-- whether the grant of the item is what comes next for the worker
abbrev pub is_next_grant : Setup → MachineState → ℕ → ℕ → ℕ → Bool
is_next_grant setup m moment worker number = is_grant_of number (next_at setup m worker moment)

-- whether the item is the first ready one without its right, and lacks it on this side; a task that is due goes first
abbrev pub is_next_refusal : Setup → MachineState → ℕ → ℕ → Side → Bool
is_next_refusal setup m moment number side =
    let k = m.events + 1 in
    is_none (due_task m moment)
    && option_map_or (λ item. (item.number == number) && item_lacks setup m k item side) (refused_item setup m k) false

-- the event k gives the item to the worker
abbrev pub grant_step : ℕ → ℕ → ℕ → MachineState → Option MachineState
grant_step k worker number m =
    option_map (λ item. put_item number (with_state k (Running worker k) item) m) (item_at m number)

-- the item with its task, where both are there
abbrev pub with_task_of : {X : Type 0} → MachineState → ℕ → (Item → TaskRow → Option X) → Option X
with_task_of m number f = option_and_then (λ item. option_and_then (f item) (task_at m item.task)) (item_at m number)

-- a refused item ends as one whose worker is denied this side
abbrev pub refuse_step : ℕ → ℕ → Side → MachineState → Option MachineState
refuse_step k number side m = with_task_of m number refused
  where
    refused : Item → TaskRow → Option MachineState
    refused item task = Some (with_item number (with_state k (failure_of task.spec PermissionDenied side) item) m)

-- whether a worker has the item since this event, and its grant fits the outcome
abbrev pub is_report : TaskRow → Item → ℕ → Outcome → Bool
is_report task item event outcome =
    option_map_or (λ grant. (grant.event == event) && outcome_fits grant outcome) (worker_grant task item) false

-- a report is of an item that a worker has since this event, with an outcome that fits its grant
abbrev pub report_step : ℕ → ℕ → ℕ → Outcome → MachineState → Option MachineState
report_step k number event outcome m = with_task_of m number reported
  where
    attempted : Item → TaskRow → Turn → MachineState
    attempted item task turn = with_item number (attempted_item k task.closing turn outcome item) m

    reported : Item → TaskRow → Option MachineState
    reported item task =
        option_and_then (λ turn. only_if (is_report task item event outcome) (attempted item task turn)) (turn_of task.spec outcome)

-- a running item is given up
abbrev pub restarted_item : ℕ → MachineState → Item → Item
restarted_item k m item = if is_running item.state then with_state k (given_up (closing_of m item)) item else item

-- a restart gives up all running items, where there are any, at the greatest moment
abbrev pub restart_step : ℕ → ℕ → MachineState → Option MachineState
restart_step k moment m =
    only_if
    (list_any (λ item. is_running item.state) m.items && (moment == m.greatest))
    (record m { items = map (restarted_item k m) m.items })
