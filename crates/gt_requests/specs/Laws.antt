-- What holds of all documents.
use Rattle.std.specs.List.{list_any}
use Rattle.std.specs.Prelude.{List, false, ℕ, ◌≡◌}
use Rattle.std.specs.Str.{bytes_eq}
use Rattle.serde_json.specs.Data.{Data, Members, object, put}
use Rattle.gt_paths.specs.Path.{PathValue}
use Rattle.gt_setup.specs.Setup.{Setup}
use Rattle.gt_requests.specs.Access.{access_of, permission_of}
use Rattle.gt_requests.specs.Entries.{Sides, entry_of}
use Rattle.gt_requests.specs.Rows.{Row, access_rows, bad_member, entry_rows, first_bad, names_of, permission_rows, transfer_rows}
use Rattle.gt_requests.specs.Transfer.{submission_of}

-- a member of a name that isn't in the table changes nothing of what an object is read as
abbrev pub ReadsOnly : {A : Type 0} → (Data → List Row) → (Data → A) → Type 0
ReadsOnly rows read =
    (ms : Members) (other : List ℕ) (d : Data) → list_any (bytes_eq other) (names_of (rows (object ms))) ≡ false
    → read (object (put other d ms)) ≡ read (object ms)

-- each document reads the members of its table alone
pub record UnknownMembersChangeNothing : Type 0 where
  pub transfer : (setup : Setup) → ReadsOnly (transfer_rows setup) (submission_of setup)
  pub entry : (sides : Sides) → ReadsOnly (entry_rows sides) (entry_of sides)
  pub access : (home : PathValue) → ReadsOnly (access_rows home) (access_of home)
  pub permission : ReadsOnly permission_rows permission_of

-- a document is refused for the first member of its table that is bad, and read where all are good; an entry that is an
-- object likewise
pub record FirstBadMember : Type 0 where
  pub transfer : (setup : Setup) (d : Data) → bad_member (submission_of setup d) ≡ first_bad (transfer_rows setup d)
  pub entry : (sides : Sides) (ms : Members) → bad_member (entry_of sides (object ms)) ≡ first_bad (entry_rows sides (object ms))
  pub access : (home : PathValue) (d : Data) → bad_member (access_of home d) ≡ first_bad (access_rows home d)
  pub permission : (d : Data) → bad_member (permission_of d) ≡ first_bad (permission_rows d)
