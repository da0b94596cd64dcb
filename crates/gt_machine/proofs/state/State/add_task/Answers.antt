-- The task's row and its items are those of the step.
use Rattle.std.proofs.Common.{◌+◌, ◌∙◌, Option, ap, length, subst, sym}
use Rattle.std.specs.Prelude.{IsSome}
use Rattle.gt_machine.specs.Change.{Held, new_items}
use Rattle.gt_machine.specs.MachineState.{MachineState}
use Rattle.gt_machine.specs.TaskSteps.{submit_step}
use Rattle.gt_machine.proofs.StepLemmas.{submit_made}
use Rattle.gt_machine.proofs.state.State.add_task.Goals as goal
use Rattle.gt_subtasks.specs.Growth.{first_items}
use Rattle.gt_types.specs.declared.spec.Spec.TheVariants.{Transfer as OfTransfer}

pub returns-in-Task : goal.returns-in-Task
returns-in-Task c =
    let spec = OfTransfer c.args.spec in
    let step : MachineState → Option MachineState = λ m. submit_step c.args.moment c.args.owner c.args.submission spec m in
    let same = sym (ap (λ (held : Held). held.machine) c.self.view_is) in
    let growth = ap new_items (sym c.in-Task.is ∙ c.requires.prepared) in
    ap step same
    ∙ submit_made c.args.moment c.args.owner c.args.submission spec _ c.row_of-row.result c.in-Task.items c.add.new.self.rows c.add-number.new.self.rows
    (subst (λ (m : MachineState). IsSome (step m)) same c.requires.allowed)
    c.row_of-row.ensures
    (growth ∙ ap (λ (m : MachineState). first_items (length m.tasks + 1) (length m.items + 1) spec) same)
    (c.first_items_keep_their_numbers.ensures _ _ spec)
    c.add-number.ensures.rows
    c.add.ensures.rows
