-- The text of an outcome: its number, and its fields, one after the other.
use Rattle.std.specs.Int.{w64}
use Rattle.std.specs.Prelude.{List, [], ℕ, ◌++◌, ◌∷◌}
use Rattle.gt_records.specs.Fields.{byte_text, digest_text, number_text, option_text}
use Rattle.gt_types.specs.declared.act.Side.{Side}
use Rattle.gt_types.specs.declared.act.Side.TheVariants.{Destination, Source}
use Rattle.gt_types.specs.declared.code.Code.{Code}
use Rattle.gt_types.specs.declared.code.Code.TheVariants.{FileNotFound, FolderTooLarge, ItemLimit, NotEmpty, PathTooLong, PermissionDenied, TreeFault as TreeFaults, VerifyMismatch, WrongKind}
use Rattle.gt_types.specs.declared.outcome.Evidence.{Evidence}
use Rattle.gt_types.specs.declared.outcome.Outcome.{Outcome}
use Rattle.gt_types.specs.declared.outcome.Outcome.TheVariants.{Copied, Expanded, Failed, Listed, Mismatch, Missing, Present, Removed, TreeFault}

-- the codes, in the order of their numbers
abbrev pub codes : List Code
codes =
    FileNotFound ∷ PermissionDenied ∷ WrongKind ∷ NotEmpty ∷ VerifyMismatch ∷ TreeFaults ∷ FolderTooLarge
    ∷ ItemLimit ∷ PathTooLong ∷ []

-- the number of a code
abbrev pub code_number : Code → ℕ
code_number FileNotFound = 1
code_number PermissionDenied = 2
code_number WrongKind = 3
code_number NotEmpty = 4
code_number VerifyMismatch = 5
code_number TreeFaults = 6
code_number FolderTooLarge = 7
code_number ItemLimit = 8
code_number PathTooLong = 9

-- the sides, in the order of their numbers
abbrev pub sides : List Side
sides = Source ∷ Destination ∷ []

-- the number of a side
abbrev pub side_number : Side → ℕ
side_number Source = 1
side_number Destination = 2

-- what a copy rests on: its size, its source's digest, and the digest of what was read back
abbrev pub evidence_text : Evidence → List ℕ
evidence_text evidence =
    number_text w64 evidence.size ++ digest_text evidence.source ++ option_text digest_text evidence.back

-- which number an outcome has
abbrev pub outcome_number : Outcome → ℕ
outcome_number (Copied evidence checked) = 1
outcome_number (Present level source destination digests checked) = 2
outcome_number (Expanded made source destination) = 3
outcome_number (Listed entries) = 4
outcome_number Removed = 5
outcome_number Missing = 6
outcome_number (Failed code side) = 7
outcome_number (TreeFault before after) = 8
outcome_number (Mismatch size source back_size back checked) = 9

-- its fields, in order; those of outcomes that no record holds yet are left open
abbrev pub outcome_fields : Outcome → List ℕ
outcome_fields (Copied evidence checked) = evidence_text evidence ++ number_text w64 checked
outcome_fields (Present level source destination digests checked) = []
outcome_fields (Expanded made source destination) = []
outcome_fields (Listed entries) = []
outcome_fields Removed = []
outcome_fields Missing = []
outcome_fields (Failed code side) = byte_text (code_number code) ++ byte_text (side_number side)
outcome_fields (TreeFault before after) = number_text w64 before ++ number_text w64 after
outcome_fields (Mismatch size source back_size back checked) =
    number_text w64 size ++ digest_text source ++ number_text w64 back_size ++ digest_text back ++ number_text w64 checked

-- an outcome: its number, and its fields
abbrev pub outcome_text : Outcome → List ℕ
outcome_text outcome = byte_text (outcome_number outcome) ++ outcome_fields outcome
