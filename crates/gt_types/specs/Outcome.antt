-- Which outcome fits which grant, and which outcomes have a text.
use Rattle.std.specs.Prelude.{Bool, List, None, Option, Some, false, nat_lt, not, true, ℕ, ◌&&◌, ◌-◌, ◌==◌, ◌^◌, ◌||◌, ◌≡◌}
use Rattle.std.specs.Str.{bytes_eq}
use Rattle.gt_values.specs.Forms.{if_there, is_digest, is_u64}
use Rattle.gt_types.specs.declared.act.Act.{Act}
use Rattle.gt_types.specs.declared.act.Act.TheVariants.{Erase, RemoveFolder, Transfer}
use Rattle.gt_types.specs.declared.act.Side.{Side}
use Rattle.gt_types.specs.declared.act.Side.TheVariants.{Destination, Source}
use Rattle.gt_types.specs.declared.act.Want.{Want}
use Rattle.gt_types.specs.declared.act.Want.TheVariants.{Either, File, Folder}
use Rattle.gt_types.specs.declared.code.Code.{Code}
use Rattle.gt_types.specs.declared.code.Code.TheVariants.{FileNotFound, FolderTooLarge, ItemLimit, NotEmpty, PathTooLong, PermissionDenied, TreeFault as TreeFaults, VerifyMismatch, WrongKind}
use Rattle.gt_types.specs.declared.outcome.Evidence.{Evidence}
use Rattle.gt_types.specs.declared.outcome.Grant.{Grant}
use Rattle.gt_types.specs.declared.outcome.Outcome.{Outcome}
use Rattle.gt_types.specs.declared.outcome.Outcome.TheVariants.{Copied, Expanded, Failed, Listed, Mismatch, Missing, Present, Removed, TreeFault}

-- whether a file may be what is wanted
abbrev pub may_be_file : Want → Bool
may_be_file File = true
may_be_file Folder = false
may_be_file Either = true

-- whether the act is a transfer
abbrev pub is_transfer : Act → Bool
is_transfer (Transfer source destination want) = true
is_transfer (Erase path want) = false
is_transfer (RemoveFolder path) = false

-- whether the act may copy a file: a transfer that doesn't want a folder
abbrev pub may_copy : Act → Bool
may_copy (Transfer source destination want) = may_be_file want
may_copy (Erase path want) = false
may_copy (RemoveFolder path) = false

-- whether a folder is listed for the act, which a folder's removal doesn't do
abbrev pub lists_folders : Act → Bool
lists_folders (Transfer source destination want) = true
lists_folders (Erase path want) = true
lists_folders (RemoveFolder path) = false

-- the codes that a worker may find for the act
abbrev pub is_worker_code : Act → Code → Bool
is_worker_code act FileNotFound = true
is_worker_code act PermissionDenied = true
is_worker_code act WrongKind = true
is_worker_code act NotEmpty = true
is_worker_code act VerifyMismatch = false
is_worker_code act TreeFaults = false
is_worker_code act FolderTooLarge = lists_folders act
is_worker_code act ItemLimit = false
is_worker_code act PathTooLong = false

-- the sides of the act: what isn't a transfer has the destination alone
abbrev pub is_side_of : Act → Side → Bool
is_side_of act Source = is_transfer act
is_side_of act Destination = true

-- a read-back with the source's digest where the task verifies, and none elsewhere
abbrev pub is_read_back : Bool → List ℕ → Option (List ℕ) → Bool
is_read_back verify source None = not verify
is_read_back verify source (Some back) = verify && bytes_eq back source

-- a count of faults that rose, or that stands at its last number
abbrev pub is_rise : ℕ → ℕ → Bool
is_rise before after = nat_lt before after || (before == 2 ^ 64 - 1) && (after == 2 ^ 64 - 1)

-- whether a worker may report the outcome of the grant; what folders and deletions come to isn't reported yet
abbrev pub outcome_fits : Grant → Outcome → Bool
outcome_fits grant (Copied evidence checked) = may_copy grant.act && is_read_back grant.verify evidence.source evidence.back
outcome_fits grant (Present level source destination digests checked) = false
outcome_fits grant (Expanded made source destination) = false
outcome_fits grant (Listed entries) = false
outcome_fits grant Removed = false
outcome_fits grant Missing = false
outcome_fits grant (Failed code side) = is_worker_code grant.act code && is_side_of grant.act side
outcome_fits grant (TreeFault before after) = is_rise before after
outcome_fits grant (Mismatch size source back_size back checked) =
    is_transfer grant.act && grant.verify && (not (bytes_eq source back) || not (size == back_size))

-- a verified copy was read back with the source's digest, and a copy that isn't verified wasn't read back
abbrev pub VerifiedCopiesWereReadBack : Type 0
VerifiedCopiesWereReadBack = (grant : Grant) (evidence : Evidence) (checked : ℕ)
    → outcome_fits grant (Copied evidence checked) ≡ true
    → (grant.verify ≡ true → evidence.back ≡ Some evidence.source)
    × (grant.verify ≡ false → evidence.back ≡ None)

-- an outcome that fits is a copy, a failure, a fault of a forest or a mismatch
abbrev pub is_of_one_file : Outcome → Bool
is_of_one_file (Copied evidence checked) = true
is_of_one_file (Present level source destination digests checked) = false
is_of_one_file (Expanded made source destination) = false
is_of_one_file (Listed entries) = false
is_of_one_file Removed = false
is_of_one_file Missing = false
is_of_one_file (Failed code side) = true
is_of_one_file (TreeFault before after) = true
is_of_one_file (Mismatch size source back_size back checked) = true

-- whether the values of what a copy rests on have their forms
abbrev pub is_evidence : Evidence → Bool
is_evidence evidence = is_u64 evidence.size && is_digest evidence.source && if_there is_digest evidence.back

-- whether the outcome has a text; what folders and deletions come to has none yet
abbrev pub is_recordable_outcome : Outcome → Bool
is_recordable_outcome (Copied evidence checked) = is_evidence evidence && is_u64 checked
is_recordable_outcome (Present level source destination digests checked) = false
is_recordable_outcome (Expanded made source destination) = false
is_recordable_outcome (Listed entries) = false
is_recordable_outcome Removed = false
is_recordable_outcome Missing = false
is_recordable_outcome (Failed code side) = true
is_recordable_outcome (TreeFault before after) = is_u64 before && is_u64 after
is_recordable_outcome (Mismatch size source back_size back checked) =
    is_u64 size && is_digest source && is_u64 back_size && is_digest back && is_u64 checked
