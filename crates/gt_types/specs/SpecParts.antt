-- What a specification says of its task.
use Rattle.std.specs.Prelude.{Bool, List, Option, false, length, true, ℕ}
use Rattle.gt_types.specs.declared.options.DeleteOptions.{DeleteOptions}
use Rattle.gt_types.specs.declared.options.TaskOptions.{TaskOptions}
use Rattle.gt_types.specs.declared.options.TaskOptions.TheVariants as shown
use Rattle.gt_types.specs.declared.options.TransferOptions.{TransferOptions}
use Rattle.gt_types.specs.declared.spec.DeleteSpec.{DeleteSpec}
use Rattle.gt_types.specs.declared.spec.Spec.{Spec}
use Rattle.gt_types.specs.declared.spec.Spec.TheVariants.{Delete as OfDelete, Transfer as OfTransfer}
use Rattle.gt_types.specs.declared.spec.TransferSpec.{TransferSpec}

-- the collection that is read
abbrev pub source_of : Spec → ℕ
source_of (OfTransfer spec) = spec.source
source_of (OfDelete spec) = spec.collection

-- the collection that is written
abbrev pub destination_of : Spec → ℕ
destination_of (OfTransfer spec) = spec.destination
destination_of (OfDelete spec) = spec.collection

-- whether the task is a delete task
abbrev pub is_deletion : Spec → Bool
is_deletion (OfTransfer spec) = false
is_deletion (OfDelete spec) = true

-- the label
abbrev pub label_of : Spec → Option (List ℕ)
label_of (OfTransfer spec) = spec.label
label_of (OfDelete spec) = spec.label

-- the deadline
abbrev pub deadline_of : Spec → Option ℕ
deadline_of (OfTransfer spec) = spec.deadline
deadline_of (OfDelete spec) = spec.deadline

-- how many entries there are
abbrev pub entry_count : Spec → ℕ
entry_count (OfTransfer spec) = length spec.entries
entry_count (OfDelete spec) = length spec.entries

-- what the document of a transfer shows of it
abbrev pub transfer_options : TransferSpec → TransferOptions
transfer_options spec =
    record {
      source = spec.source;
      destination = spec.destination;
      level = spec.level;
      verify = spec.verify;
      preserve = spec.preserve;
      extra = spec.extra;
      skip_source = spec.skip_source;
      kept = spec.kept;
    }

-- what the document of a deletion shows of it
abbrev pub delete_options : DeleteSpec → DeleteOptions
delete_options spec =
    record {
      collection = spec.collection;
      recursive = spec.recursive;
      ignore_missing = spec.ignore_missing;
      kept = spec.kept;
    }

-- what the document of a task shows of its specification
abbrev pub options_of : Spec → TaskOptions
options_of (OfTransfer spec) = shown.Transfer (transfer_options spec)
options_of (OfDelete spec) = shown.Delete (delete_options spec)
