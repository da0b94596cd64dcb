-- What holds of the rows in each state that events lead to.
use Rattle.std.specs.Prelude.{All, IsNone, IsSomeAnd, List, Option, Some, false, length, slice_get, ℕ, ◌+◌, ◌<◌, ◌≡◌, ◌≤◌}
use Rattle.gt_access.specs.declared.row.AccessRow.{AccessRow}
use Rattle.gt_machine.specs.MachineState.{MachineState, item_at, task_at}
use Rattle.gt_paths.specs.Path.{PathValue, overlaps}
use Rattle.gt_subtasks.specs.declared.item.Item.{Item}
use Rattle.gt_tasks.specs.declared.row.TaskRow.{TaskRow}
use Rattle.gt_types.specs.SpecParts.{destination_of, source_of}
use Rattle.gt_types.specs.declared.act.Act.{Act}
use Rattle.gt_types.specs.declared.act.Act.TheVariants.{Erase, RemoveFolder, Transfer}
use Rattle.gt_types.specs.declared.rule.Principal.{Principal}
use Rattle.gt_types.specs.declared.spec.Spec.{Spec}

-- rows are numbered from 1 in order
abbrev pub IsNumbered : {X : Type 0} → (X → ℕ) → List X → Type 0
IsNumbered {X} number rows = (i : ℕ) (x : X) → slice_get rows i ≡ Some x → number x ≡ i + 1

-- no row has a number above how many rows there are
abbrev pub IsNumberedWithin : {X : Type 0} → (X → ℕ) → List X → Type 0
IsNumberedWithin number rows = All (λ row. number row ≤ length rows) rows

-- a parent comes before, in the same task
abbrev pub HasParentBefore : MachineState → Item → Type 0
HasParentBefore m item =
    (parent : ℕ) → item.parent ≡ Some parent → (parent < item.number) × IsSomeAnd (item_at m parent) (λ above. above.task ≡ item.task)

-- the two paths of a transfer within one collection don't overlap
abbrev pub IsApart : Spec → Act → Type 0
IsApart spec (Transfer source destination want) =
    source_of spec ≡ destination_of spec → overlaps source destination ≡ false
IsApart spec (Erase path want) = Unit {0}
IsApart spec (RemoveFolder path) = Unit {0}

-- the item has a task, and its paths suit that task's collections
abbrev pub IsOfTask : MachineState → Item → Type 0
IsOfTask m item = IsSomeAnd (task_at m item.task) (λ task. IsApart task.spec item.act)

-- no two tasks have the same owner and submission identifier
abbrev pub HasOneTaskEach : List TaskRow → Type 0
HasOneTaskEach tasks =
    (i j : ℕ) (a b : TaskRow) → slice_get tasks i ≡ Some a → slice_get tasks j ≡ Some b
    → a.owner ≡ b.owner → a.submission ≡ b.submission → i ≡ j

-- a rule was born at an event, before its end
pub record IsLife (events born : ℕ) (ended : Option ℕ) : Type 0 where
  pub after_start : 1 ≤ born
  pub counted : born ≤ events
  pub before_end : (k : ℕ) → ended ≡ Some k → (born < k) × (k ≤ events)

-- of the live rows with one key, at most one
abbrev pub HasOneLive : {X K : Type 0} → (X → Option ℕ) → (X → K) → List X → Type 0
HasOneLive {X} ended key rows =
    (i j : ℕ) (a b : X) → slice_get rows i ≡ Some a → slice_get rows j ≡ Some b
    → IsNone (ended a) → IsNone (ended b) → key a ≡ key b → i ≡ j

-- what at most one live access row has
abbrev pub rule_key : AccessRow → ℕ × Principal × PathValue
rule_key row = (row.collection, row.spec.principal, row.spec.path)
