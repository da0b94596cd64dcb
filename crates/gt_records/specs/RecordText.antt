-- The text of a record: an event as bytes, its tag, its moment and its fields, one after the other.
use Rattle.std.specs.Int.{w32, w64}
use Rattle.std.specs.Prelude.{Bool, List, None, Option, Some, [], false, true, ℕ, ◌*◌, ◌++◌, ◌+◌}
use Rattle.gt_records.specs.Fields.{boolean_code, boolean_text, byte_text, id_text, list_text, moment_text, number_text, option_text, path_text, principal_text, string_text}
use Rattle.gt_records.specs.OutcomeText.{outcome_text, side_number}
use Rattle.gt_types.specs.declared.event.Event.{Event}
use Rattle.gt_types.specs.declared.event.Happening.{Happening}
use Rattle.gt_types.specs.declared.event.Happening.TheVariants.{AccessAdd, AccessEnd, AccessReplace, Cancel, GrantItem, Issue, PauseAdd, PauseEnd, RefuseItem, ReportItem, Restart, SubmitDelete, SubmitTransfer, Sweep, Update}
use Rattle.gt_types.specs.declared.listing.Kind.{Kind}
use Rattle.gt_types.specs.declared.listing.Kind.TheVariants.{File, Folder}
use Rattle.gt_types.specs.declared.rule.AccessSpec.{AccessSpec}
use Rattle.gt_types.specs.declared.spec.FilterRule.{FilterRule}
use Rattle.gt_types.specs.declared.kept.Kept.{Kept}
use Rattle.gt_types.specs.declared.spec.TransferEntry.{TransferEntry}
use Rattle.gt_types.specs.declared.spec.TransferSpec.{TransferSpec}

-- the kind of a filter rule is 0 for any, 1 for a file, 2 for a folder
abbrev pub kind_code : Option Kind → ℕ
kind_code None = 0
kind_code (Some File) = 1
kind_code (Some Folder) = 2

-- whether an entry is recursive is 0 where it is absent, 1 for false, 2 for true
abbrev pub recursive_code : Option Bool → ℕ
recursive_code None = 0
recursive_code (Some false) = 1
recursive_code (Some true) = 2

-- the flags of a transfer are the bits 0 to 3 of one byte
abbrev pub flags_code : Bool → Bool → Bool → Bool → ℕ
flags_code verify preserve extra skip_source =
    boolean_code verify + 2 * boolean_code preserve + 4 * boolean_code extra + 8 * boolean_code skip_source

-- kept members are two bytes of bits: which were given, and which of those were true
abbrev pub kept_text : Kept → List ℕ
kept_text kept = byte_text kept.given ++ byte_text kept.set

-- a filter rule: whether it includes, its kind, and its pattern
abbrev pub filter_rule_text : FilterRule → List ℕ
filter_rule_text rule = boolean_text rule.include ++ byte_text (kind_code rule.kind) ++ string_text rule.pattern

-- an entry: its two paths, and whether it is recursive
abbrev pub entry_text : TransferEntry → List ℕ
entry_text entry = path_text entry.source ++ path_text entry.destination ++ byte_text (recursive_code entry.recursive)

-- a specification of a transfer: its fields, in order
abbrev pub transfer_spec_text : TransferSpec → List ℕ
transfer_spec_text spec =
    number_text w32 spec.source ++ number_text w32 spec.destination
    ++ option_text string_text spec.label ++ option_text moment_text spec.deadline ++ option_text byte_text spec.level
    ++ byte_text (flags_code spec.verify spec.preserve spec.extra spec.skip_source) ++ kept_text spec.kept
    ++ list_text filter_rule_text spec.rules ++ list_text entry_text spec.entries

-- what an access rule says: its principal, its path, and whether it permits writing
abbrev pub access_spec_text : AccessSpec → List ℕ
access_spec_text spec = principal_text spec.principal ++ path_text spec.path ++ boolean_text spec.write

-- which tag an event has
abbrev pub tag_of : Happening → ℕ
tag_of (Issue identity) = 1
tag_of (SubmitTransfer owner submission spec) = 2
tag_of (SubmitDelete owner submission spec) = 3
tag_of (AccessAdd collection spec) = 4
tag_of (AccessReplace rule write) = 5
tag_of (AccessEnd rule) = 6
tag_of (PauseAdd spec) = 7
tag_of (PauseEnd rule) = 8
tag_of (Cancel task) = 9
tag_of (Update task label deadline) = 10
tag_of (GrantItem worker item) = 11
tag_of (RefuseItem item side) = 12
tag_of (ReportItem item grant outcome) = 13
tag_of (Sweep task) = 14
tag_of Restart = 15

-- its fields, in order; those of events that no record holds yet are left open
abbrev pub fields_text : Happening → List ℕ
fields_text (Issue identity) = id_text identity
fields_text (SubmitTransfer owner submission spec) = id_text owner ++ id_text submission ++ transfer_spec_text spec
fields_text (SubmitDelete owner submission spec) = []
fields_text (AccessAdd collection spec) = number_text w32 collection ++ access_spec_text spec
fields_text (AccessReplace rule write) = number_text w64 rule ++ boolean_text write
fields_text (AccessEnd rule) = number_text w64 rule
fields_text (PauseAdd spec) = []
fields_text (PauseEnd rule) = []
fields_text (Cancel task) = []
fields_text (Update task label deadline) = []
fields_text (GrantItem worker item) = byte_text worker ++ number_text w64 item
fields_text (RefuseItem item side) = number_text w64 item ++ byte_text (side_number side)
fields_text (ReportItem item grant outcome) = number_text w64 item ++ number_text w64 grant ++ outcome_text outcome
fields_text (Sweep task) = []
fields_text Restart = []

-- the text of an event
unfoldable pub record_text : Event → List ℕ
record_text event = byte_text (tag_of event.what) ++ moment_text event.moment ++ fields_text event.what
