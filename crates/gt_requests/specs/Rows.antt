-- The table of each document: a row a member, in the order in which they are tested, with whether the member is good.
use Rattle.std.specs.Prelude.{Bool, Err, List, None, Ok, Option, Result, Some, [], codes, false, if◌then◌else◌, is_ok, map, ℕ, ◌++◌, ◌∷◌}
use Rattle.serde_json.specs.Data.{Data}
use Rattle.gt_documents.specs.Members.{absent_at, constant_at, default_at, flag_at, id_at, path_at, switch_at, unset_at}
use Rattle.gt_documents.specs.Place.{Place}
use Rattle.gt_documents.specs.declared.place.Step.TheVariants.{Member}
use Rattle.gt_paths.specs.Path.{PathValue}
use Rattle.gt_setup.specs.Setup.{Setup}
use Rattle.gt_types.specs.Kept.{kept_members, name_of}
use Rattle.gt_types.specs.declared.kept.KeptMember.{KeptMember}
use Rattle.gt_values.specs.Results.{◌>>=◌}
use Rattle.gt_requests.specs.Access.{principal_at, type_at, write_at}
use Rattle.gt_requests.specs.Entries.{Sides, apart_at, entries_of}
use Rattle.gt_requests.specs.Shared.{deadline_at, label_at}
use Rattle.gt_requests.specs.Transfer.{ends_of, no_rules_at, sides_of}

-- a member's name, and whether it is good
abbrev pub Row : Type 0
Row = List ℕ × Bool

-- the row of a member that is read so
abbrev pub row : {A : Type 0} → List ℕ → Result A Place → Row
row name read = (name, is_ok read)

-- the names of the members
abbrev pub names_of : List Row → List (List ℕ)
names_of rows = map (λ r. r.0) rows

-- of a transfer
abbrev pub ends_rows : Data → List Row
ends_rows d =
    row (codes "submission_id") (id_at d (codes "submission_id"))
    ∷ row (codes "source_endpoint") (id_at d (codes "source_endpoint"))
    ∷ row (codes "destination_endpoint") (id_at d (codes "destination_endpoint"))
    ∷ []

abbrev pub flags_rows : Data → List Row
flags_rows d =
    row (codes "verify_checksum") (switch_at false d (codes "verify_checksum"))
    ∷ row (codes "preserve_timestamp") (switch_at false d (codes "preserve_timestamp"))
    ∷ row (codes "delete_destination_extra") (unset_at d (codes "delete_destination_extra"))
    ∷ row (codes "skip_source_errors") (switch_at false d (codes "skip_source_errors"))
    ∷ []

abbrev pub kept_rows : Data → List KeptMember → List Row
kept_rows d members = map (λ m. row (name_of m) (flag_at d (name_of m))) members

abbrev pub options_rows : Data → List Row
options_rows d =
    row (codes "label") (label_at d)
    ∷ row (codes "deadline") (deadline_at d)
    ∷ row (codes "sync_level") (absent_at d (codes "sync_level"))
    ∷ (flags_rows d
    ++ (row (codes "recursive_symlinks") (default_at (codes "ignore") d (codes "recursive_symlinks"))
    ∷ (kept_rows d kept_members ++ (row (codes "filter_rules") (no_rules_at d) ∷ []))))

abbrev pub transfer_rows : Setup → Data → List Row
transfer_rows setup d =
    row (codes "DATA_TYPE") (constant_at (codes "transfer") d (codes "DATA_TYPE"))
    ∷ (ends_rows d
    ++ (options_rows d ++ (row (codes "DATA") (ends_of d >>= λ ends. entries_of (sides_of setup ends) d) ∷ [])))

-- the destination of an entry, which is apart from the source where the collections are one
abbrev pub destination_at : Sides → Data → Result Unit Place
destination_at sides d = do
  source ← path_at sides.source d (codes "source_path")
  destination ← path_at sides.destination d (codes "destination_path")
  apart_at sides.are_one source destination

-- of an entry of a transfer
abbrev pub entry_rows : Sides → Data → List Row
entry_rows sides d =
    row (codes "DATA_TYPE") (constant_at (codes "transfer_item") d (codes "DATA_TYPE"))
    ∷ row (codes "source_path") (path_at sides.source d (codes "source_path"))
    ∷ row (codes "destination_path") (destination_at sides d)
    ∷ row (codes "recursive") (unset_at d (codes "recursive"))
    ∷ []

-- of an access rule, on a collection with this home
abbrev pub access_rows : PathValue → Data → List Row
access_rows home d =
    row (codes "DATA_TYPE") (constant_at (codes "access") d (codes "DATA_TYPE"))
    ∷ row (codes "principal_type") (type_at d)
    ∷ row (codes "principal") (principal_at d)
    ∷ row (codes "path") (path_at home d (codes "path"))
    ∷ row (codes "permissions") (write_at d)
    ∷ []

-- of a rule's new permission
abbrev pub permission_rows : Data → List Row
permission_rows d =
    row (codes "DATA_TYPE") (constant_at (codes "access") d (codes "DATA_TYPE")) ∷ row (codes "permissions") (write_at d) ∷ []

-- the first member that is bad
abbrev pub first_bad : List Row → Option (List ℕ)
first_bad [] = None
first_bad ((name, good) ∷ rows) = if good then first_bad rows else Some name

-- the member in which a place lies
abbrev pub outermost : Place → List ℕ
outermost (Member name ∷ steps) = name
outermost _ = []

-- the member that a refused document is told for
abbrev pub bad_member : {A : Type 0} → Result A Place → Option (List ℕ)
bad_member (Ok a) = None
bad_member (Err place) = Some (outermost place)
