-- What holds in the state that a history leads to.
use Rattle.std.specs.Prelude.{All, IsTrue, List, length, ℕ, ◌-◌, ◌^◌, ◌≡◌, ◌≤◌}
use Rattle.gt_machine.specs.MachineState.{MachineState}
use Rattle.gt_machine.specs.SoundRows.{HasOneLive, HasOneTaskEach, HasParentBefore, IsLife, IsNumbered, IsNumberedWithin, IsOfTask, rule_key}
use Rattle.gt_machine.specs.SoundValues.{HasPaths, IsRuleOfSetup, IsTaskOfSetup}
use Rattle.gt_setup.specs.Setup.{Setup}
use Rattle.gt_subtasks.specs.Item.{items_of}
use Rattle.gt_types.specs.declared.event.Event.{Event}
use Rattle.gt_values.specs.Forms.{is_moment}

-- the state counts the events, and none has a moment above the greatest
pub record IsCounted (history : List Event) (m : MachineState) : Type 0 where
  pub events : m.events ≡ length history
  pub moments : All (λ event. event.moment ≤ m.greatest) history

-- rows are numbered in order, and each item has its task, and its parent before it
pub record IsNumberedState (m : MachineState) : Type 0 where
  pub tasks : IsNumbered (λ task. task.number) m.tasks
  pub items : IsNumbered (λ item. item.number) m.items
  pub parents : All (HasParentBefore m) m.items
  pub of_tasks : All (IsOfTask m) m.items

-- the lives of rules, and their numbers
pub record IsSoundRules (m : MachineState) : Type 0 where
  pub access_lives : All (λ row. IsLife m.events row.born row.ended) m.access
  pub access_within : IsNumberedWithin (λ row. row.number) m.access
  pub access_numbers : HasOneLive (λ row. row.ended) (λ row. row.number) m.access
  pub access_keys : HasOneLive (λ row. row.ended) rule_key m.access

-- the numbers of rows and of issued identifiers are within their limits, and the greatest moment is one
pub record IsWithinLimits (m : MachineState) : Type 0 where
  pub tasks : length m.tasks ≤ 100000
  pub items : length m.items ≤ 400000
  pub items_of_task : (task : ℕ) → length (items_of task m.items) ≤ 200000
  pub access : length m.access ≤ 10000
  pub issued : m.issued ≤ 2 ^ 48 - 1
  pub greatest : IsTrue (is_moment m.greatest)

-- what rows hold is within its forms, and names what the setup has
pub record IsOfSetup (setup : Setup) (m : MachineState) : Type 0 where
  pub namespace : m.namespace ≡ setup.namespace
  pub tasks : All (IsTaskOfSetup setup) m.tasks
  pub access : All (IsRuleOfSetup setup) m.access
  pub items : All HasPaths m.items

-- what holds of the state that the history leads to under the setup
pub record IsSound (setup : Setup) (history : List Event) (m : MachineState) : Type 0 where
  pub counted : IsCounted history m
  pub numbered : IsNumberedState m
  pub one_task_per_submission : HasOneTaskEach m.tasks
  pub within_limits : IsWithinLimits m
  pub of_setup : IsOfSetup setup m
  pub rule_lives : IsSoundRules m
