-- The step of the machine on one event.
use Rattle.std.specs.Prelude.{Bool, None, Option, false, if◌then◌else◌, length, nat_le, option_map, true, ℕ, ◌&&◌, ◌+◌}
use Rattle.gt_machine.specs.MachineState.{MachineState}
use Rattle.gt_machine.specs.RuleSteps.{add_access_step, end_access_step, replace_access_step}
use Rattle.gt_machine.specs.TaskSteps.{issue_step, submit_step}
use Rattle.gt_setup.specs.Setup.{Setup, has_identity}
use Rattle.gt_types.specs.Event.{is_recordable}
use Rattle.gt_types.specs.declared.event.Event.{Event}
use Rattle.gt_types.specs.declared.event.Happening.{Happening}
use Rattle.gt_types.specs.declared.event.Happening.TheVariants.{AccessAdd, AccessEnd, AccessReplace, Cancel, GrantItem, Issue, PauseAdd, PauseEnd, RefuseItem, ReportItem, Restart, SubmitDelete, SubmitTransfer, Sweep, Update}
use Rattle.gt_types.specs.declared.spec.Spec.TheVariants.{Transfer as OfTransfer}

-- whether the setup allows what happens on this state at this moment: it has the identity that acts. Deletions, pause
-- rules, changes of tasks and what workers do aren't allowed yet
abbrev pub is_allowed : Setup → MachineState → ℕ → Happening → Bool
is_allowed setup m moment (Issue identity) = has_identity setup identity
is_allowed setup m moment (SubmitTransfer owner submission spec) = has_identity setup owner
is_allowed setup m moment (SubmitDelete owner submission spec) = false
is_allowed setup m moment (AccessAdd collection spec) = true
is_allowed setup m moment (AccessReplace rule write) = true
is_allowed setup m moment (AccessEnd rule) = true
is_allowed setup m moment (PauseAdd spec) = false
is_allowed setup m moment (PauseEnd rule) = false
is_allowed setup m moment (Cancel task) = false
is_allowed setup m moment (Update task label deadline) = false
is_allowed setup m moment (GrantItem worker item) = false
is_allowed setup m moment (RefuseItem item side) = false
is_allowed setup m moment (ReportItem item grant outcome) = false
is_allowed setup m moment (Sweep task) = false
is_allowed setup m moment Restart = false

-- whether the event may come now, whatever the tables hold: moments don't go back, its fields are within their forms and
-- limits, and the setup allows it
abbrev pub may_come : Setup → MachineState → Event → Bool
may_come setup m event =
    nat_le m.greatest event.moment && is_recordable (length setup.collections) event
    && is_allowed setup m event.moment event.what

-- the effect of the event k, or none where the tables don't allow it
abbrev pub effect_of : ℕ → ℕ → Happening → MachineState → Option MachineState
effect_of k moment (Issue identity) m = issue_step m
effect_of k moment (SubmitTransfer owner submission spec) m = submit_step moment owner submission (OfTransfer spec) m
effect_of k moment (SubmitDelete owner submission spec) m = None
effect_of k moment (AccessAdd collection spec) m = add_access_step k collection spec m
effect_of k moment (AccessReplace rule write) m = replace_access_step k rule write m
effect_of k moment (AccessEnd rule) m = end_access_step k rule m
effect_of k moment (PauseAdd spec) m = None
effect_of k moment (PauseEnd rule) m = None
effect_of k moment (Cancel task) m = None
effect_of k moment (Update task label deadline) m = None
effect_of k moment (GrantItem worker item) m = None
effect_of k moment (RefuseItem item side) m = None
effect_of k moment (ReportItem item grant outcome) m = None
effect_of k moment (Sweep task) m = None
effect_of k moment Restart m = None

-- the state counts the event, and keeps its moment
abbrev pub counted_state : ℕ → ℕ → MachineState → MachineState
counted_state k moment m = record m { greatest = moment; events = k }

-- what an event that may come leads to
abbrev pub next_of : MachineState → Event → Option MachineState
next_of m event =
    let k = m.events + 1 in option_map (counted_state k event.moment) (effect_of k event.moment event.what m)

-- the next state, or none
abbrev pub step_of : Setup → MachineState → Event → Option MachineState
step_of setup m event = if may_come setup m event then next_of m event else None
