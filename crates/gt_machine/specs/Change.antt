-- Changes that were planned and not yet made.
use Rattle.std.specs.Option.{option_map_or}
use Rattle.std.specs.Prelude.{Bool, IsSome, List, [], length, ℕ, ◌+◌, ◌<◌, ◌^◌, ◌≡◌, ◌≤◌}
use Rattle.gt_access.specs.Rule.{live_access}
use Rattle.gt_machine.specs.MachineState.{MachineState}
use Rattle.gt_machine.specs.RuleSteps.{replaced_spec}
use Rattle.gt_machine.specs.Step.{step_of}
use Rattle.gt_machine.specs.declared.change.Change.{Change}
use Rattle.gt_machine.specs.declared.change.Prepared.{Prepared}
use Rattle.gt_machine.specs.declared.change.Prepared.TheVariants.{Access as ForAccess, Nothing, Task as ForTask}
use Rattle.gt_setup.specs.Setup.{Setup}
use Rattle.gt_subtasks.specs.Growth.{first_items}
use Rattle.gt_subtasks.specs.declared.item.Item.{Item}
use Rattle.gt_types.specs.SpecParts.{label_of}
use Rattle.gt_types.specs.declared.event.Happening.{Happening}
use Rattle.gt_types.specs.declared.event.Happening.TheVariants.{AccessAdd, AccessEnd, AccessReplace, Cancel, GrantItem, Issue, PauseAdd, PauseEnd, RefuseItem, ReportItem, Restart, SubmitDelete, SubmitTransfer, Sweep, Update}
use Rattle.gt_types.specs.declared.spec.Spec.{Spec}
use Rattle.gt_types.specs.declared.spec.Spec.TheVariants.{Transfer as OfTransfer}

-- how many rows of each table can be added without taking memory
pub record Room : Type 0 where
  pub access : ℕ
  pub tasks : ℕ
  pub items : ℕ

-- what contracts see of a state: the machine, and its room
pub record Held : Type 0 where
  pub machine : MachineState
  pub room : Room

-- what a new task takes memory for
abbrev pub prepared_task : MachineState → Spec → Prepared
prepared_task m spec = ForTask (label_of spec) (first_items (length m.tasks + 1) (length m.items + 1) spec)

-- what a new permission of a rule takes memory for
abbrev pub prepared_rule : MachineState → ℕ → Bool → Prepared
prepared_rule m rule write =
    option_map_or (λ row. ForAccess (replaced_spec write row)) (live_access rule m.access) Nothing

-- what the step of the event takes memory for
abbrev pub prepared_for : MachineState → Happening → Prepared
prepared_for m (Issue identity) = Nothing
prepared_for m (SubmitTransfer owner submission spec) = prepared_task m (OfTransfer spec)
prepared_for m (SubmitDelete owner submission spec) = Nothing
prepared_for m (AccessAdd collection spec) = Nothing
prepared_for m (AccessReplace rule write) = prepared_rule m rule write
prepared_for m (AccessEnd rule) = Nothing
prepared_for m (PauseAdd spec) = Nothing
prepared_for m (PauseEnd rule) = Nothing
prepared_for m (Cancel task) = Nothing
prepared_for m (Update task label deadline) = Nothing
prepared_for m (GrantItem worker item) = Nothing
prepared_for m (RefuseItem item side) = Nothing
prepared_for m (ReportItem item grant outcome) = Nothing
prepared_for m (Sweep task) = Nothing
prepared_for m Restart = Nothing

-- how many tasks the event adds
abbrev pub new_tasks : Happening → ℕ
new_tasks (Issue identity) = 0
new_tasks (SubmitTransfer owner submission spec) = 1
new_tasks (SubmitDelete owner submission spec) = 0
new_tasks (AccessAdd collection spec) = 0
new_tasks (AccessReplace rule write) = 0
new_tasks (AccessEnd rule) = 0
new_tasks (PauseAdd spec) = 0
new_tasks (PauseEnd rule) = 0
new_tasks (Cancel task) = 0
new_tasks (Update task label deadline) = 0
new_tasks (GrantItem worker item) = 0
new_tasks (RefuseItem item side) = 0
new_tasks (ReportItem item grant outcome) = 0
new_tasks (Sweep task) = 0
new_tasks Restart = 0

-- how many rows of access rules the event adds
abbrev pub new_rules : Happening → ℕ
new_rules (Issue identity) = 0
new_rules (SubmitTransfer owner submission spec) = 0
new_rules (SubmitDelete owner submission spec) = 0
new_rules (AccessAdd collection spec) = 1
new_rules (AccessReplace rule write) = 1
new_rules (AccessEnd rule) = 0
new_rules (PauseAdd spec) = 0
new_rules (PauseEnd rule) = 0
new_rules (Cancel task) = 0
new_rules (Update task label deadline) = 0
new_rules (GrantItem worker item) = 0
new_rules (RefuseItem item side) = 0
new_rules (ReportItem item grant outcome) = 0
new_rules (Sweep task) = 0
new_rules Restart = 0

-- the items that are added
abbrev pub new_items : Prepared → List Item
new_items Nothing = []
new_items (ForTask label items) = items
new_items (ForAccess spec) = []

-- the tables have room for the rows of what happens
pub record HasRoom (room : Room) (what : Happening) (prepared : Prepared) : Type 0 where
  pub access : new_rules what ≤ room.access
  pub tasks : new_tasks what ≤ room.tasks
  pub items : length (new_items prepared) ≤ room.items

-- the change is the step that its event has on this state under the setup, with all that the step takes memory for
pub record IsPlanned (setup : Setup) (state : Held) (change : Change) : Type 0 where
  pub step : IsSome (step_of setup state.machine change.event)
  pub countable : state.machine.events < 2 ^ 63
  pub prepared : change.prepared ≡ prepared_for state.machine change.event.what
  pub room : HasRoom state.room change.event.what change.prepared
