-- When an event has a step, and a record.
use Rattle.std.proofs.Common.{◌≡◌, ◌≤◌, ℕ, ◌+◌, List, [], ◌∷◌, ◌++◌, ◌∙◌, length, Bool, true, false, Option, Some, None, refl, sym, ap, arith, rules}
use Rattle.std.specs.Prelude.{IsSome, is_some, nat_le, if◌then◌else◌, ◌&&◌}
use Rattle.std.specs.Option.{option_map}
use Rattle.gt_access.specs.Rule.{live_access}
use Rattle.gt_machine.proofs.Effects.{and_then_is, only_if_is}
use Rattle.gt_machine.specs.MachineState.{MachineState}
use Rattle.gt_machine.specs.RuleSteps.{only_if}
use Rattle.gt_machine.specs.Step.{counted_state, effect_of, is_allowed, may_come, next_of, step_of}
use Rattle.gt_machine.specs.TaskSteps.{new_task, submit_step, with_task}
use Rattle.gt_setup.specs.Setup.{Setup}
use Rattle.gt_subtasks.specs.Growth.{first_items, numbered}
use Rattle.gt_subtasks.specs.declared.item.Item.{Item}
use Rattle.gt_tasks.specs.Tasks.{added_task}
use Rattle.gt_tasks.specs.declared.row.TaskRow.{TaskRow}
use Rattle.gt_types.specs.Event.{is_recordable}
use Rattle.gt_types.specs.declared.event.Event.{Event}
use Rattle.gt_types.specs.declared.event.Happening.{Happening}
use Rattle.gt_types.specs.declared.event.Happening.TheVariants.{AccessAdd, AccessEnd, AccessReplace, Issue, SubmitTransfer}
use Rattle.gt_types.specs.declared.spec.Spec.{Spec}

pub both_hold : (a b : Bool) → a ≡ true → b ≡ true → (a && b) ≡ true
both_hold true b in_a in_b = in_b
both_hold false b in_a in_b = absurd (cc)

-- an event may come that is at the greatest moment or later, within its forms, and allowed
pub comes : (setup : Setup) (m : MachineState) (event : Event) → m.greatest ≤ event.moment → is_recordable (length setup.collections) event ≡ true
    → is_allowed setup m event.moment event.what ≡ true → may_come setup m event ≡ true
comes setup m event later form allowed =
    let test : nat_le m.greatest event.moment ≡ true = grind (arith, rules, later) in
    both_hold _ _ (both_hold _ _ test form) allowed

pub only_if_some : {X Y : Type 0} (f : X → Y) (test : Bool) (x : X) → test ≡ true → IsSome (option_map f (only_if test x))
only_if_some f true x holds = grind rules
only_if_some f false x holds = absurd (cc)

pub step_there : (setup : Setup) (m : MachineState) (event : Event) → may_come setup m event ≡ true → IsSome (next_of m event) → IsSome (step_of setup m event)
step_there setup m event may next = rw may next

-- an event that has a step has an effect, and its step is the next state
pub step_effect : (setup : Setup) (m : MachineState) (event : Event) → IsSome (step_of setup m event)
    → IsSome (effect_of (m.events + 1) event.moment event.what m) × (step_of setup m event ≡ next_of m event)
step_effect setup m event there = by_cases (may_come setup m event) (effect_of (m.events + 1) event.moment event.what m) there
  where
    next : Option MachineState → Option MachineState
    next o = option_map (counted_state (m.events + 1) event.moment) o

    by_cases : (b : Bool) (o : Option MachineState) → IsSome (if b then next o else None) → IsSome o × ((if b then next o else None) ≡ next o)
    by_cases false o is = absurd (cc)
    by_cases true None is = absurd (cc)
    by_cases true (Some x) is = (is, refl)

-- an event that may come, and that the tables allow, has a step
pub step_allowed : (setup : Setup) (m : MachineState) (event : Event) → may_come setup m event ≡ true
    → is_some (effect_of (m.events + 1) event.moment event.what m) ≡ true → IsSome (step_of setup m event)
step_allowed setup m event may allowed = by_cases (may_come setup m event) (effect_of (m.events + 1) event.moment event.what m) may allowed
  where
    by_cases : (b : Bool) (o : Option MachineState) → b ≡ true → is_some o ≡ true → IsSome (if b then option_map (counted_state (m.events + 1) event.moment) o else None)
    by_cases false o b_true o_there = absurd (cc)
    by_cases true None b_true o_there = absurd (cc)
    by_cases true (Some x) b_true o_there = o_there

pub step_not_none : (setup : Setup) (m : MachineState) (event : Event) → may_come setup m event ≡ true
    → is_some (effect_of (m.events + 1) event.moment event.what m) ≡ true → step_of setup m event ≡ None → ⊥
step_not_none setup m event may allowed none = not_there (step_of setup m event) (step_allowed setup m event may allowed) none
  where
    not_there : (o : Option MachineState) → IsSome o → o ≡ None → ⊥
    not_there None there is = absurd (cc)
    not_there (Some n) there is = absurd (cc)

-- an effect counts nothing yet
pub effect_uncounted : (k moment : ℕ) (what : Happening) (m next : MachineState) → effect_of k moment what m ≡ Some next → next.events ≡ m.events
effect_uncounted k moment (Issue identity) m next is = ap (λ (n : MachineState). n.events) (sym (only_if_is _ _ next is).1)
effect_uncounted k moment (SubmitTransfer owner submission spec) m next is = ap (λ (n : MachineState). n.events) (sym (only_if_is _ _ next is).1)
effect_uncounted k moment (AccessAdd collection spec) m next is = ap (λ (n : MachineState). n.events) (sym (only_if_is _ _ next is).1)
effect_uncounted k moment (AccessReplace rule write) m next is =
    let found = and_then_is _ (live_access rule m.access) next is in ap (λ (n : MachineState). n.events) (sym (only_if_is _ _ next found.2).1)
effect_uncounted k moment (AccessEnd rule) m next is = ap (λ (n : MachineState). n.events) (sym (only_if_is _ _ next is).1)
effect_uncounted k moment _ m next is = absurd (cc)

-- the step of a submission, by what its rows became
pub submit_made : (moment : ℕ) (owner submission : List ℕ) (spec : Spec) (m : MachineState) (row : TaskRow) (growth items : List Item) (tasks : List TaskRow)
    → IsSome (submit_step moment owner submission spec m) → row ≡ new_task 0 moment owner submission spec
    → growth ≡ first_items (length m.tasks + 1) (length m.items + 1) spec
    → numbered (length m.items + 1) (first_items (length m.tasks + 1) (length m.items + 1) spec) ≡ first_items (length m.tasks + 1) (length m.items + 1) spec
    → tasks ≡ added_task row m.tasks → items ≡ m.items ++ numbered (length m.items + 1) growth
    → submit_step moment owner submission spec m ≡ Some (record m { tasks = tasks; items = items })
submit_made moment owner submission spec m row growth items tasks there is_row is_growth stay in_tasks in_items =
    only_then _ (with_task moment owner submission spec m) there
    ∙ (λ i. Some (record m { tasks = sym tasks_are i; items = sym items_are i }))
  where
    only_then : (test : Bool) (x : MachineState) → IsSome (only_if test x) → only_if test x ≡ Some x
    only_then true x is = refl
    only_then false x is = absurd (cc)

    tasks_are : tasks ≡ m.tasks ++ new_task (length m.tasks + 1) moment owner submission spec ∷ []
    tasks_are = in_tasks ∙ ap (λ (r : TaskRow). added_task r m.tasks) is_row

    items_are : items ≡ m.items ++ first_items (length m.tasks + 1) (length m.items + 1) spec
    items_are =
        in_items ∙ ap (λ (g : List Item). m.items ++ numbered (length m.items + 1) g) is_growth
        ∙ ap (λ (g : List Item). m.items ++ g) stay
