-- Whose rows a reply shows.
use Rattle.std.specs.Prelude.{All, IsSomeAnd, List, Some, slice_get, true, ℕ, ◌≡◌}
use Rattle.std.specs.Str.{bytes_eq}
use Rattle.gt_access.specs.declared.row.AccessRow.{AccessRow}
use Rattle.gt_machine.specs.Document.{access_document, pair_of, skipped_document}
use Rattle.gt_machine.specs.MachineState.{MachineState, task_at}
use Rattle.gt_setup.specs.Setup.{Setup, is_owner}
use Rattle.gt_subtasks.specs.declared.item.Item.{Item}
use Rattle.gt_types.specs.declared.reply.AccessDocument.{AccessDocument}
use Rattle.gt_types.specs.declared.reply.Reply.{Reply}
use Rattle.gt_types.specs.declared.reply.Reply.TheVariants.{Access, AccessList, Skipped, Successes, Task, Tasks}
use Rattle.gt_types.specs.declared.reply.TaskDocument.{TaskDocument}

-- the document is of a task of this caller
abbrev pub IsOfCaller : List ℕ → TaskDocument → Type 0
IsOfCaller identity task = bytes_eq task.owner identity ≡ true

-- the row shows an item of a task of this caller
abbrev pub ShowsItemOf : {X : Type 0} → MachineState → List ℕ → (Item → X) → X → Type 0
ShowsItemOf m identity shown row =
    (item : Item) × ((place : ℕ) × (slice_get m.items place ≡ Some item))
    × IsSomeAnd (task_at m item.task) (λ task. bytes_eq task.owner identity ≡ true) × (row ≡ shown item)

-- the document shows a rule of a collection that this caller owns
abbrev pub ShowsRuleOf : Setup → MachineState → List ℕ → AccessDocument → Type 0
ShowsRuleOf setup m identity rule =
    (row : AccessRow) × ((place : ℕ) × (slice_get m.access place ≡ Some row))
    × (is_owner setup identity row.collection ≡ true) × (rule ≡ access_document row)

-- the tasks, items and access rules in the reply are the caller's
abbrev pub ShowsOwn : Setup → MachineState → List ℕ → Reply → Type 0
ShowsOwn setup m identity (Task task) = IsOfCaller identity task
ShowsOwn setup m identity (Tasks rows page) = All (IsOfCaller identity) rows
ShowsOwn setup m identity (Successes rows page) = All (ShowsItemOf m identity pair_of) rows
ShowsOwn setup m identity (Skipped rows page) = All (ShowsItemOf m identity skipped_document) rows
ShowsOwn setup m identity (Access rule) = ShowsRuleOf setup m identity rule
ShowsOwn setup m identity (AccessList rows collection) = All (ShowsRuleOf setup m identity) rows
ShowsOwn setup m identity _ = Unit {0}
