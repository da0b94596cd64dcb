-- The state that a history leads to is sound.
use Rattle.std.proofs.Common.{List, [], ◌∷◌, ◌++◌, ◌≡◌, Some, length, length-append, refl, arith}
use Rattle.gt_machine.specs.MachineState.{MachineState}
use Rattle.gt_machine.specs.Run.{run_of}
use Rattle.gt_machine.specs.Sound.{IsCounted, IsNumberedState, IsSound, IsSoundRules, IsWithinLimits}
use Rattle.gt_machine.specs.Step.{step_of}
use Rattle.gt_machine.proofs.Apart.{all_of_tasks}
use Rattle.gt_machine.proofs.ApartSteps.{HasSuited, none_suited, step_suits}
use Rattle.gt_machine.proofs.ItemNumbers.{HasOrderlyItems, items_numbered, step_in_order}
use Rattle.gt_machine.proofs.FewItems.{FewItems, HasFewItems, no_items, step_few}
use Rattle.gt_machine.proofs.Limits.{HasLimits, HasRowLimits, no_limits, step_within}
use Rattle.gt_machine.proofs.Lives.{HasLives, no_lives, step_lives}
use Rattle.gt_machine.proofs.Moments.{AllBefore, one_later}
use Rattle.gt_machine.proofs.OfSetup.{OfSetup, empty_of_setup, step_of_setup}
use Rattle.gt_machine.proofs.OneRule.{HasRuleOrder, no_rules, step_orders}
use Rattle.gt_machine.proofs.OneTask.{HasOrderlyTasks, no_tasks, one_task, step_keeps_order, tasks_numbered}
use Rattle.gt_machine.proofs.Parents.{HasParents, no_parents, parents_before, step_parents}
use Rattle.gt_machine.proofs.RuleNumbers.{HasRulesWithin, no_rules_within, step_rules_within}
use Rattle.gt_machine.proofs.Runs.{of_run, step_is}
use Rattle.gt_setup.specs.Setup.{Setup}
use Rattle.gt_types.specs.declared.event.Event.{Event}

pub numbered : (setup : Setup) (history : List Event) (m : MachineState) → run_of setup history ≡ Some m → IsNumberedState m
numbered setup history m is = record {
  tasks = tasks_numbered m.tasks (of_run setup HasOrderlyTasks (step_keeps_order setup) no_tasks history m is);
  items = items_numbered m.items (of_run setup HasOrderlyItems (step_in_order setup) tt history m is);
  parents = parents_before m (of_run setup HasParents (step_parents setup) no_parents history m is);
  of_tasks = all_of_tasks m (of_run setup HasSuited (step_suits setup) none_suited history m is);
}

pub rules_sound : (setup : Setup) (history : List Event) (m : MachineState) → run_of setup history ≡ Some m → IsSoundRules m
rules_sound setup history m is = record {
  access_lives = of_run setup HasLives (step_lives setup) no_lives history m is;
  access_within = of_run setup HasRulesWithin (step_rules_within setup) no_rules_within history m is;
  access_numbers = (of_run setup HasRuleOrder (step_orders setup) no_rules history m is).numbers;
  access_keys = (of_run setup HasRuleOrder (step_orders setup) no_rules history m is).keys;
}

one_more : (setup : Setup) (history : List Event) (m next : MachineState) (event : Event) → m.events ≡ length history → step_of setup m event ≡ Some next
    → next.events ≡ length (history ++ event ∷ [])
one_more setup history m next event counts is =
    let e = (step_is setup m next event is).result in
    rw (e, counts) (grind (arith, length-append history (event ∷ [])))

counted : (setup : Setup) (history : List Event) (m : MachineState) → run_of setup history ≡ Some m → IsCounted history m
counted setup history m is = record {
  events = of_run setup (λ (h : List Event) (n : MachineState). n.events ≡ length h) (one_more setup) refl history m is;
  moments = of_run setup AllBefore (one_later setup) (λ k d below. absurd (omega arith)) history m is;
}

pub limits : (setup : Setup) (history : List Event) (m : MachineState) → run_of setup history ≡ Some m → IsWithinLimits m
limits setup history m is =
    let rows : HasRowLimits m = of_run setup HasLimits (step_within setup) (no_limits setup.namespace) history m is in
    let items : HasFewItems m = of_run setup FewItems (step_few setup) (no_items setup.namespace) history m is in
    record { tasks = rows.tasks; items = rows.items; items_of_task = items.few; access = rows.access; issued = rows.issued; greatest = rows.greatest }

pub sound_state : (setup : Setup) (history : List Event) (m : MachineState) → run_of setup history ≡ Some m → IsSound setup history m
sound_state setup history m is = record {
  counted = counted setup history m is;
  numbered = numbered setup history m is;
  one_task_per_submission = one_task m.tasks (of_run setup HasOrderlyTasks (step_keeps_order setup) no_tasks history m is);
  within_limits = limits setup history m is;
  of_setup = of_run setup (OfSetup setup) (step_of_setup setup) (empty_of_setup setup) history m is;
  rule_lives = rules_sound setup history m is;
}
