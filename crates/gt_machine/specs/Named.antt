-- Tasks and rules by the identifiers that stand in requests.
use Rattle.std.specs.Int.{from_be_bytes, w64}
use Rattle.std.specs.List.{starts_with}
use Rattle.std.specs.Prelude.{List, None, Option, Some, drop, if◌then◌else◌, nat_eq, option_and_then, true, ℕ, [], ◌++◌, ◌<◌, ◌==◌, ◌^◌, ◌∷◌, ◌≡◌}
use Rattle.std.specs.Str.{bytes_eq}
use Rattle.gt_access.specs.Rule.{live_access}
use Rattle.gt_access.specs.declared.row.AccessRow.{AccessRow}
use Rattle.gt_machine.specs.MachineState.{MachineState, task_at}
use Rattle.gt_machine.specs.RuleSteps.{only_if}
use Rattle.gt_setup.specs.Setup.{Setup}
use Rattle.gt_tasks.specs.declared.row.TaskRow.{TaskRow}
use Rattle.gt_values.specs.Forms.{is_id}
use Rattle.gt_values.specs.Ident.{bytes_of, made_id}

-- what an identifier that the desk makes begins with
abbrev pub made_front : ℕ → ℕ → List ℕ
made_front namespace kind = bytes_of 4 namespace ++ 0 ∷ kind ∷ 128 ∷ 0 ∷ 128 ∷ 0 ∷ []

-- the number of which the identifier is made, where it is one of this namespace and kind
abbrev pub number_named : ℕ → ℕ → List ℕ → Option ℕ
number_named namespace kind id =
    if starts_with nat_eq id (made_front namespace kind) then Some (from_be_bytes w64 (0 ∷ 0 ∷ drop 10 id)) else None

-- an identifier names a number exactly where the desk makes it of this number
pub record NamesWhatIsMade : Type 0 where
  pub made : (namespace kind n : ℕ) → namespace < 2 ^ 32 → kind < 256 → n < 2 ^ 48
      → number_named namespace kind (made_id namespace kind n) ≡ Some n
  pub named : (namespace kind n : ℕ) (id : List ℕ) → is_id id ≡ true → number_named namespace kind id ≡ Some n
      → (n < 2 ^ 48) × (made_id namespace kind n ≡ id)

-- the caller's task with this identifier
abbrev pub task_named : Setup → MachineState → List ℕ → List ℕ → Option TaskRow
task_named setup m identity id =
    option_and_then (λ task. only_if (bytes_eq task.owner identity) task)
    (option_and_then (task_at m) (number_named setup.namespace 2 id))

-- the live access rule of the collection with this identifier
abbrev pub rule_named : Setup → MachineState → ℕ → List ℕ → Option AccessRow
rule_named setup m collection id =
    option_and_then (λ row. only_if (row.collection == collection) row)
    (option_and_then (λ number. live_access number m.access) (number_named setup.namespace 3 id))
