-- The forms and limits of events: what a record's text can hold.
use Rattle.std.specs.Prelude.{Bool, false, nat_le, nat_lt, true, ℕ, ◌&&◌, ◌^◌}
use Rattle.gt_values.specs.Forms.{is_id, is_moment, is_u64}
use Rattle.gt_types.specs.Outcome.{is_recordable_outcome}
use Rattle.gt_types.specs.SpecForms.{is_access_spec, is_transfer_spec}
use Rattle.gt_types.specs.declared.event.Event.{Event}
use Rattle.gt_types.specs.declared.event.Happening.{Happening}
use Rattle.gt_types.specs.declared.event.Happening.TheVariants.{AccessAdd, AccessEnd, AccessReplace, Cancel, GrantItem, Issue, PauseAdd, PauseEnd, RefuseItem, ReportItem, Restart, SubmitDelete, SubmitTransfer, Sweep, Update}

-- the number of a worker
abbrev pub is_worker : ℕ → Bool
is_worker worker = nat_le 1 worker && nat_le worker 16

-- whether the values of what happens are within their limits; deletions, pause rules and changes of tasks have no text yet
abbrev pub is_recordable_happening : Happening → Bool
is_recordable_happening (Issue identity) = is_id identity
is_recordable_happening (SubmitTransfer owner submission spec) =
    is_id owner && is_id submission && is_transfer_spec spec
is_recordable_happening (SubmitDelete owner submission spec) = false
is_recordable_happening (AccessAdd collection spec) = is_access_spec spec
is_recordable_happening (AccessReplace rule write) = is_u64 rule
is_recordable_happening (AccessEnd rule) = is_u64 rule
is_recordable_happening (PauseAdd spec) = false
is_recordable_happening (PauseEnd rule) = false
is_recordable_happening (Cancel task) = false
is_recordable_happening (Update task label deadline) = false
is_recordable_happening (GrantItem worker item) = is_worker worker && is_u64 item
is_recordable_happening (RefuseItem item side) = is_u64 item
is_recordable_happening (ReportItem item grant outcome) =
    is_u64 item && is_u64 grant && is_recordable_outcome outcome
is_recordable_happening (Sweep task) = false
is_recordable_happening Restart = true

-- whether each collection that is named is below the number
abbrev pub has_collections : ℕ → Happening → Bool
has_collections count (Issue identity) = true
has_collections count (SubmitTransfer owner submission spec) = nat_lt spec.source count && nat_lt spec.destination count
has_collections count (SubmitDelete owner submission spec) = nat_lt spec.collection count
has_collections count (AccessAdd collection spec) = nat_lt collection count
has_collections count (AccessReplace rule write) = true
has_collections count (AccessEnd rule) = true
has_collections count (PauseAdd spec) = nat_lt spec.collection count
has_collections count (PauseEnd rule) = true
has_collections count (Cancel task) = true
has_collections count (Update task label deadline) = true
has_collections count (GrantItem worker item) = true
has_collections count (RefuseItem item side) = true
has_collections count (ReportItem item grant outcome) = true
has_collections count (Sweep task) = true
has_collections count Restart = true

-- whether the event has a text, where the collections are so many
abbrev pub is_recordable : ℕ → Event → Bool
is_recordable count event =
    is_moment event.moment && has_collections count event.what && is_recordable_happening event.what

-- the collections of a record are numbers of 4 bytes, whatever the setup
abbrev pub recordable_collections : ℕ
recordable_collections = 2 ^ 32
