-- Which commands a request can give.
use Rattle.std.specs.Prelude.{Bool, false, nat_le, nat_lt, true, ℕ, ◌&&◌}
use Rattle.gt_values.specs.Forms.{is_id, is_u64}
use Rattle.gt_types.specs.SpecForms.{is_access_spec, is_transfer_spec}
use Rattle.gt_types.specs.declared.command.Command.{Command}
use Rattle.gt_types.specs.declared.command.Command.TheVariants.{AddAccess, AddPause, CancelTask, EndAccess, EndPause, IssueId, ListAccess, ListPauses, ListSkipped, ListSuccesses, ListTasks, ReplaceAccess, ShowAccess, ShowEndpoint, ShowPause, ShowTask, SubmitDelete, SubmitTransfer, UpdateTask}

-- a page of 1 to 1,000 rows
abbrev pub is_page : ℕ → ℕ → Bool
is_page limit offset = nat_le 1 limit && nat_le limit 1000 && is_u64 offset

-- whether the values of the command are within the limits of documents and queries, where the collections are so many;
-- no document asks yet for a deletion, a change of a task, or pause rules
abbrev pub is_command : ℕ → Command → Bool
is_command count IssueId = true
is_command count (SubmitTransfer submission spec) =
    is_id submission && nat_lt spec.source count && nat_lt spec.destination count && is_transfer_spec spec
is_command count (SubmitDelete submission spec) = false
is_command count (ListTasks limit offset) = is_page limit offset
is_command count (ShowTask task) = is_id task
is_command count (UpdateTask task label deadline) = false
is_command count (CancelTask task) = false
is_command count (ListSuccesses task limit offset) = is_id task && is_page limit offset
is_command count (ListSkipped task limit offset) = is_id task && is_page limit offset
is_command count (ShowEndpoint collection) = nat_lt collection count
is_command count (ListAccess collection) = nat_lt collection count
is_command count (AddAccess collection spec) = nat_lt collection count && is_access_spec spec
is_command count (ShowAccess collection rule) = nat_lt collection count && is_id rule
is_command count (EndAccess collection rule) = nat_lt collection count && is_id rule
is_command count (ReplaceAccess collection rule write) = nat_lt collection count && is_id rule
is_command count ListPauses = false
is_command count (AddPause spec) = false
is_command count (ShowPause rule) = false
is_command count (EndPause rule) = false
