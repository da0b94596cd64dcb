-- Computed examples of the definitions: which outcomes fit which grants.
use Rattle.std.proofs.Common.{◌≡◌, ◌-◌, ◌^◌, ℕ, List, [], ◌∷◌, map, Bool, true, false, Option, Some, None, refl}
use Rattle.gt_types.specs.Outcome.{outcome_fits}
use Rattle.gt_types.specs.declared.act.Act.{Act}
use Rattle.gt_types.specs.declared.act.Act.TheVariants.{Erase, RemoveFolder, Transfer}
use Rattle.gt_types.specs.declared.act.Side.{Side}
use Rattle.gt_types.specs.declared.act.Side.TheVariants.{Destination, Source}
use Rattle.gt_types.specs.declared.act.Want.TheVariants.{Either, File, Folder}
use Rattle.gt_types.specs.declared.code.Code.{Code}
use Rattle.gt_types.specs.declared.code.Code.TheVariants.{FileNotFound, FolderTooLarge, ItemLimit, NotEmpty, PathTooLong, PermissionDenied, TreeFault as TreeFaults, VerifyMismatch, WrongKind}
use Rattle.gt_types.specs.declared.listing.Kind.TheVariants.{File as FileKind}
use Rattle.gt_types.specs.declared.listing.Stat.{Stat}
use Rattle.gt_types.specs.declared.outcome.Grant.{Grant}
use Rattle.gt_types.specs.declared.outcome.Outcome.{Outcome}
use Rattle.gt_types.specs.declared.outcome.Outcome.TheVariants.{Copied, Expanded, Failed, Listed, Mismatch, Missing, Present, Removed, TreeFault}

abbrev grant : Bool → Act → Grant
grant verify act = record {
  item = 7;
  event = 9;
  worker = 1;
  act = act;
  source = 0;
  destination = 1;
  level = None;
  verify = verify;
  preserve = true;
  list_destination = false;
}

-- each act, with each thing that it may want
abbrev acts : List Act
acts =
    Transfer [] [] File ∷ Transfer [] [] Folder ∷ Transfer [] [] Either
    ∷ Erase [] File ∷ Erase [] Folder ∷ Erase [] Either
    ∷ RemoveFolder [] ∷ []

-- which of the acts the outcome fits, where the task verifies or doesn't
abbrev verified : Outcome → List Bool
verified outcome = map (λ act. outcome_fits (grant true act) outcome) acts

abbrev unverified : Outcome → List Bool
unverified outcome = map (λ act. outcome_fits (grant false act) outcome) acts

abbrev all_acts : List Bool
all_acts = true ∷ true ∷ true ∷ true ∷ true ∷ true ∷ true ∷ []

abbrev no_act : List Bool
no_act = false ∷ false ∷ false ∷ false ∷ false ∷ false ∷ false ∷ []

abbrev transfers : List Bool
transfers = true ∷ true ∷ true ∷ false ∷ false ∷ false ∷ false ∷ []

abbrev transfers_of_files : List Bool
transfers_of_files = true ∷ false ∷ true ∷ false ∷ false ∷ false ∷ false ∷ []

abbrev listing_acts : List Bool
listing_acts = true ∷ true ∷ true ∷ true ∷ true ∷ true ∷ false ∷ []

-- ---- copies

abbrev copied : List ℕ → Option (List ℕ) → Outcome
copied source back = Copied (record { size = 3; source = source; back = back }) 6

-- a verified copy was read back with the source's digest
pub a_copy_was_read_back : verified (copied (1 ∷ 2 ∷ []) (Some (1 ∷ 2 ∷ []))) ≡ transfers_of_files
a_copy_was_read_back = refl

pub another_read_back : verified (copied (1 ∷ 2 ∷ []) (Some (1 ∷ 3 ∷ []))) ≡ no_act
another_read_back = refl

pub no_read_back : verified (copied (1 ∷ 2 ∷ []) None) ≡ no_act
no_read_back = refl

-- an unverified copy was not read back
pub an_unverified_copy : unverified (copied (1 ∷ 2 ∷ []) None) ≡ transfers_of_files
an_unverified_copy = refl

pub a_needless_read_back : unverified (copied (1 ∷ 2 ∷ []) (Some (1 ∷ 2 ∷ []))) ≡ no_act
a_needless_read_back = refl

-- ---- failures

-- the codes by their numbers
abbrev codes : List Code
codes =
    FileNotFound ∷ PermissionDenied ∷ WrongKind ∷ NotEmpty ∷ VerifyMismatch ∷ TreeFaults ∷ FolderTooLarge
    ∷ ItemLimit ∷ PathTooLong ∷ []

abbrev failures : Side → List (List Bool)
failures side = map (λ code. unverified (Failed code side)) codes

pub failures_at_the_destination : failures Destination
    ≡ all_acts ∷ all_acts ∷ all_acts ∷ all_acts ∷ no_act ∷ no_act ∷ listing_acts ∷ no_act ∷ no_act ∷ []
failures_at_the_destination = refl

pub failures_at_the_source : failures Source
    ≡ transfers ∷ transfers ∷ transfers ∷ transfers ∷ no_act ∷ no_act ∷ transfers ∷ no_act ∷ no_act ∷ []
failures_at_the_source = refl

pub verifying_changes_no_failure : map (λ code. verified (Failed code Source)) codes ≡ failures Source
verifying_changes_no_failure = refl

-- ---- faults of a forest

pub rising_faults : map (λ after. unverified (TreeFault 3 after)) (2 ∷ 3 ∷ 4 ∷ 5 ∷ []) ≡ no_act ∷ no_act ∷ all_acts ∷ all_acts ∷ []
rising_faults = refl

pub the_last_fault : verified (TreeFault (2 ^ 64 - 1) (2 ^ 64 - 1)) ≡ all_acts
the_last_fault = refl

pub the_fault_before : verified (TreeFault (2 ^ 64 - 2) (2 ^ 64 - 2)) ≡ no_act
the_fault_before = refl

-- ---- mismatches

pub digests_differ : verified (Mismatch 3 (1 ∷ 2 ∷ []) 3 (1 ∷ 3 ∷ []) 6) ≡ transfers
digests_differ = refl

pub sizes_differ : verified (Mismatch 3 (1 ∷ 2 ∷ []) 4 (1 ∷ 2 ∷ []) 7) ≡ transfers
sizes_differ = refl

pub nothing_differs : verified (Mismatch 3 (1 ∷ 2 ∷ []) 3 (1 ∷ 2 ∷ []) 6) ≡ no_act
nothing_differs = refl

pub nothing_was_verified : unverified (Mismatch 3 (1 ∷ 2 ∷ []) 4 (1 ∷ 3 ∷ []) 7) ≡ no_act
nothing_was_verified = refl

-- ---- what isn't reported yet

abbrev file : Stat
file = record { kind = FileKind; size = 3; mtime = 100 }

pub not_yet : map verified (Present 1 file file None 0 ∷ Expanded true [] None ∷ Listed [] ∷ Removed ∷ Missing ∷ [])
    ≡ no_act ∷ no_act ∷ no_act ∷ no_act ∷ no_act ∷ []
not_yet = refl
