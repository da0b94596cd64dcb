-- The transfer document, whose members are tested in this order.
use Rattle.std.specs.Option.{option_map_or}
use Rattle.std.specs.Prelude.{Bool, None, Ok, Option, Result, Some, [], codes, false, ℕ, ◌==◌}
use Rattle.std.specs.Str.{bytes_eq}
use Rattle.serde_json.specs.Data.{Data, Items}
use Rattle.serde_json.specs.Events.{items_len}
use Rattle.gt_documents.specs.Lists.{listed}
use Rattle.gt_documents.specs.Members.{absent_at, constant_at, default_at, id_at, member_of, switch_at, unset_at}
use Rattle.gt_documents.specs.Place.{Place, member_place}
use Rattle.gt_documents.specs.Reading.{unless_not}
use Rattle.gt_paths.specs.Path.{PathValue}
use Rattle.gt_setup.specs.Setup.{Setup, collection_of, home_of}
use Rattle.gt_types.specs.declared.spec.TransferSpec.{TransferSpec}
use Rattle.gt_values.specs.Results.{◌>>=◌}
use Rattle.gt_requests.specs.Entries.{Sides, entries_of, sides_between}
use Rattle.gt_requests.specs.Shared.{deadline_at, kept_at, label_at}
use Rattle.gt_requests.specs.declared.transfer.Ends.{Ends}
use Rattle.gt_requests.specs.declared.transfer.Flags.{Flags}
use Rattle.gt_requests.specs.declared.transfer.Options.{Options}
use Rattle.gt_requests.specs.declared.transfer.Submission.{Submission}

-- the submission and the two collections
unfoldable pub ends_of : Data → Result Ends Place
ends_of d = do
  submission ← id_at d (codes "submission_id")
  source ← id_at d (codes "source_endpoint")
  destination ← id_at d (codes "destination_endpoint")
  Ok (record { submission = submission; source = source; destination = destination })

-- the booleans that have an effect
unfoldable pub flags_of : Data → Result Flags Place
flags_of d = do
  verify ← switch_at false d (codes "verify_checksum")
  preserve ← switch_at false d (codes "preserve_timestamp")
  _ ← unset_at d (codes "delete_destination_extra")
  skip_source ← switch_at false d (codes "skip_source_errors")
  Ok (record { verify = verify; preserve = preserve; skip_source = skip_source })

-- no filter rules
abbrev pub are_none : Option Items → Bool
are_none None = false
are_none (Some ds) = items_len ds == 0

unfoldable pub no_rules_at : Data → Result Unit Place
no_rules_at d = unless_not (are_none (listed (member_of d (codes "filter_rules")))) (member_place (codes "filter_rules"))

-- what holds of the whole transfer
unfoldable pub options_of : Data → Result Options Place
options_of d = do
  label ← label_at d
  _ ← deadline_at d
  _ ← absent_at d (codes "sync_level")
  flags ← flags_of d
  _ ← default_at (codes "ignore") d (codes "recursive_symlinks")
  kept ← kept_at d
  _ ← no_rules_at d
  Ok (record { label = label; flags = flags; kept = kept })

-- the home of the collection, or the root where it is unknown
abbrev pub home_or_root : Setup → Option ℕ → PathValue
home_or_root setup collection = option_map_or (home_of setup) collection []

-- the homes of the two collections
abbrev pub sides_of : Setup → Ends → Sides
sides_of setup ends =
    sides_between (home_or_root setup (collection_of setup ends.source)) (home_or_root setup (collection_of setup ends.destination))
    (bytes_eq ends.source ends.destination)

-- the whole document
unfoldable pub submission_of : Setup → Data → Result Submission Place
submission_of setup d = do
  _ ← constant_at (codes "transfer") d (codes "DATA_TYPE")
  ends ← ends_of d
  options ← options_of d
  entries ← entries_of (sides_of setup ends) d
  Ok (record { ends = ends; options = options; entries = entries })

-- what the document asks, between these collections
abbrev pub spec_of : Submission → ℕ → ℕ → TransferSpec
spec_of submission source destination =
    let options = submission.options in
    record {
      source = source;
      destination = destination;
      label = options.label;
      deadline = None;
      level = None;
      verify = options.flags.verify;
      preserve = options.flags.preserve;
      extra = false;
      skip_source = options.flags.skip_source;
      kept = options.kept;
      rules = [];
      entries = submission.entries;
    }
