-- What an outcome means for its item.
use Rattle.std.specs.Prelude.{Bool, None, Option, Some, false, if◌then◌else◌, true, ℕ, ◌&&◌}
use Rattle.gt_subtasks.specs.declared.item.How.TheVariants.{Copied as ByCopying}
use Rattle.gt_subtasks.specs.declared.item.ItemState.{ItemState}
use Rattle.gt_subtasks.specs.declared.item.ItemState.TheVariants.{Failed as FailedWith, Skipped, Succeeded}
use Rattle.gt_types.specs.declared.act.Side.{Side}
use Rattle.gt_types.specs.declared.act.Side.TheVariants.{Destination, Source}
use Rattle.gt_types.specs.declared.code.Code.{Code}
use Rattle.gt_types.specs.declared.code.Code.TheVariants.{FileNotFound, FolderTooLarge, ItemLimit, NotEmpty, PathTooLong, PermissionDenied, TreeFault as TreeFaults, VerifyMismatch, WrongKind}
use Rattle.gt_types.specs.declared.outcome.Outcome.{Outcome}
use Rattle.gt_types.specs.declared.outcome.Outcome.TheVariants.{Copied, Expanded, Failed, Listed, Mismatch, Missing, Present, Removed, TreeFault}
use Rattle.gt_types.specs.declared.spec.Spec.{Spec}
use Rattle.gt_types.specs.declared.spec.Spec.TheVariants.{Delete as OfDelete, Transfer as OfTransfer}

-- what an item comes to
pub data Turn : Type 0 where
  Ends : ItemState → Turn
  Retries : Code → Turn  -- with the code of the fifth fault

-- whether a source that can't be read is passed over
abbrev pub skips_source : Spec → Bool
skips_source (OfTransfer spec) = spec.skip_source
skips_source (OfDelete spec) = false

-- whether the code says that something is missing or denied
abbrev pub is_skippable_code : Code → Bool
is_skippable_code FileNotFound = true
is_skippable_code PermissionDenied = true
is_skippable_code WrongKind = false
is_skippable_code NotEmpty = false
is_skippable_code VerifyMismatch = false
is_skippable_code TreeFaults = false
is_skippable_code FolderTooLarge = false
is_skippable_code ItemLimit = false
is_skippable_code PathTooLong = false

-- whether it is the source that is missing or denied
abbrev pub is_skippable : Code → Side → Bool
is_skippable code Source = is_skippable_code code
is_skippable code Destination = false

-- a source that is missing or denied is skipped where the task says so; any other failure is one
abbrev pub failure_of : Spec → Code → Side → ItemState
failure_of spec code side = if skips_source spec && is_skippable code side then Skipped code else FailedWith code

-- what the outcome means for an item of the task; what folders and removals come to isn't reported yet
abbrev pub turn_of : Spec → Outcome → Option Turn
turn_of spec (Copied evidence checked) = Some (Ends (Succeeded (ByCopying evidence)))
turn_of spec (Present level source destination digests checked) = None
turn_of spec (Expanded made source destination) = None
turn_of spec (Listed entries) = None
turn_of spec Removed = None
turn_of spec Missing = None
turn_of spec (Failed code side) = Some (Ends (failure_of spec code side))
turn_of spec (TreeFault before after) = Some (Retries TreeFaults)
turn_of spec (Mismatch size source back_size back checked) = Some (Retries VerifyMismatch)

-- how many bytes the attempt read to take digests
abbrev pub checked_in : Outcome → ℕ
checked_in (Copied evidence checked) = checked
checked_in (Present level source destination digests checked) = checked
checked_in (Expanded made source destination) = 0
checked_in (Listed entries) = 0
checked_in Removed = 0
checked_in Missing = 0
checked_in (Failed code side) = 0
checked_in (TreeFault before after) = 0
checked_in (Mismatch size source back_size back checked) = checked
