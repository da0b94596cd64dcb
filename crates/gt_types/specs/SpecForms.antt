-- The limits of specifications: what a document may ask and a record may hold.
use Rattle.std.specs.List.{list_all}
use Rattle.std.specs.Prelude.{Bool, List, length, nat_le, not, true, ◌&&◌, ◌==◌}
use Rattle.gt_paths.specs.Path.{PathValue, is_path, overlaps}
use Rattle.gt_values.specs.Forms.{if_there, is_id, is_moment}
use Rattle.gt_types.specs.Forms.{is_entries, is_kept, is_label, is_message, is_pattern, is_principal}
use Rattle.gt_types.specs.declared.change.DeadlineChange.{DeadlineChange}
use Rattle.gt_types.specs.declared.change.DeadlineChange.TheVariants as of_deadline
use Rattle.gt_types.specs.declared.change.LabelChange.{LabelChange}
use Rattle.gt_types.specs.declared.change.LabelChange.TheVariants as of_label
use Rattle.gt_types.specs.declared.rule.AccessSpec.{AccessSpec}
use Rattle.gt_types.specs.declared.rule.PauseSpec.{PauseSpec}
use Rattle.gt_types.specs.declared.spec.DeleteSpec.{DeleteSpec}
use Rattle.gt_types.specs.declared.spec.FilterRule.{FilterRule}
use Rattle.gt_types.specs.declared.spec.TransferEntry.{TransferEntry}
use Rattle.gt_types.specs.declared.spec.TransferSpec.{TransferSpec}

-- two paths, which don't overlap where the collections are one
abbrev pub is_transfer_entry : Bool → TransferEntry → Bool
is_transfer_entry one_collection entry =
    is_path entry.source && is_path entry.destination && not (one_collection && overlaps entry.source entry.destination)

-- a path but the root, which no deletion names
abbrev pub is_delete_entry : PathValue → Bool
is_delete_entry path = is_path path && nat_le 1 (length path)

-- at most 64 filter rules
abbrev pub is_rules : List FilterRule → Bool
is_rules rules = nat_le (length rules) 64 && list_all (λ rule. is_pattern rule.pattern) rules

-- a label, a deadline, a level of 0 to 3, kept members, at most 64 filter rules, and entries
abbrev pub is_transfer_spec : TransferSpec → Bool
is_transfer_spec spec =
    if_there is_label spec.label && if_there is_moment spec.deadline && if_there (λ level. nat_le level 3) spec.level
    && is_kept spec.kept && is_rules spec.rules
    && is_entries (is_transfer_entry (spec.source == spec.destination)) spec.entries

-- a label, a deadline, kept members, and entries
abbrev pub is_delete_spec : DeleteSpec → Bool
is_delete_spec spec =
    if_there is_label spec.label && if_there is_moment spec.deadline && is_kept spec.kept
    && is_entries is_delete_entry spec.entries

-- a principal and a path
abbrev pub is_access_spec : AccessSpec → Bool
is_access_spec spec = is_principal spec.principal && is_path spec.path

-- an identity, if there is one, and a message
abbrev pub is_pause_spec : PauseSpec → Bool
is_pause_spec spec = if_there is_id spec.identity && is_message spec.message

-- a new label is a label
abbrev pub is_label_change : LabelChange → Bool
is_label_change of_label.Keep = true
is_label_change (of_label.Set label) = if_there is_label label

-- a new deadline is a moment
abbrev pub is_deadline_change : DeadlineChange → Bool
is_deadline_change of_deadline.Keep = true
is_deadline_change (of_deadline.Set deadline) = if_there is_moment deadline
