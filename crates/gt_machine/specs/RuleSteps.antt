-- What the events of access rules do, and when they have no step.
use Rattle.std.specs.List.{list_any}
use Rattle.std.specs.Prelude.{Bool, List, None, Option, Some, if◌then◌else◌, is_some, length, nat_lt, not, option_and_then, ℕ, ◌&&◌}
use Rattle.gt_access.specs.Rule.{added_access, ended_access, is_same_rule, live_access, replaced_access}
use Rattle.gt_access.specs.declared.row.AccessRow.{AccessRow}
use Rattle.gt_machine.specs.MachineState.{MachineState}
use Rattle.gt_types.specs.declared.rule.AccessSpec.{AccessSpec}

-- the value, where the test holds
abbrev pub only_if : {X : Type 0} → Bool → X → Option X
only_if test x = if test then Some x else None

-- whether there is room for a row more; ended rows count, and those that a replacement made
abbrev pub has_room : {X : Type 0} → List X → Bool
has_room rows = nat_lt (length rows) 10000

-- a rule that no live rule is the same as, where there is room
abbrev pub add_access_step : ℕ → ℕ → AccessSpec → MachineState → Option MachineState
add_access_step k collection spec m =
    only_if
    (has_room m.access && not (list_any (is_same_rule collection spec) m.access))
    (record m { access = added_access k collection spec m.access })

-- what a rule becomes: its principal and its path stay
abbrev pub replaced_spec : Bool → AccessRow → AccessSpec
replaced_spec write row = record { principal = row.spec.principal; path = row.spec.path; write = write }

-- a new permission of a live rule, where there is room
abbrev pub replace_access_step : ℕ → ℕ → Bool → MachineState → Option MachineState
replace_access_step k number write m =
    option_and_then
    (λ row. only_if (has_room m.access) (record m { access = replaced_access k (replaced_spec write row) row m.access }))
    (live_access number m.access)

-- an end of a live rule
abbrev pub end_access_step : ℕ → ℕ → MachineState → Option MachineState
end_access_step k number m =
    only_if (is_some (live_access number m.access)) (record m { access = ended_access k number m.access })
