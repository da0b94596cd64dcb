-- Answers on access rules, of which only the collection's owner is told.
use Rattle.std.specs.List.{list_any}
use Rattle.std.specs.Option.{option_map_or}
use Rattle.std.specs.Prelude.{Bool, List, if◌then◌else◌, map, ℕ}
use Rattle.gt_access.specs.Rule.{is_same_rule, next_rule}
use Rattle.gt_access.specs.declared.row.AccessRow.{AccessRow}
use Rattle.gt_machine.specs.Decision.{doing, refusing}
use Rattle.gt_machine.specs.Document.{access_document, access_rules}
use Rattle.gt_machine.specs.MachineState.{MachineState}
use Rattle.gt_machine.specs.Named.{rule_named}
use Rattle.gt_machine.specs.RuleSteps.{has_room}
use Rattle.gt_machine.specs.declared.decision.Decision.{Decision}
use Rattle.gt_setup.specs.Setup.{Setup, is_owner}
use Rattle.gt_types.specs.declared.event.Happening.TheVariants.{AccessAdd, AccessEnd, AccessReplace}
use Rattle.gt_types.specs.declared.reply.Reply.{Reply}
use Rattle.gt_types.specs.declared.reply.Reply.TheVariants.{Access as AccessReply, AccessCreated, AccessList as AccessListReply, Done}
use Rattle.gt_types.specs.declared.reply.ReplyCode.TheVariants.{Exists, LimitReached, PermissionDenied, RuleNotFound}
use Rattle.gt_types.specs.declared.reply.ResultCode.TheVariants.{Deleted, Updated}
use Rattle.gt_types.specs.declared.rule.AccessSpec.{AccessSpec}

-- what is decided for the collection's owner; nobody else may use its rules
abbrev pub as_owner : Setup → List ℕ → ℕ → Decision Reply → Decision Reply
as_owner setup identity collection decision =
    if is_owner setup identity collection then decision else refusing PermissionDenied

-- what is decided of the live rule of the caller's collection with this identifier
abbrev pub on_rule : Setup → MachineState → List ℕ → ℕ → List ℕ → (AccessRow → Decision Reply) → Decision Reply
on_rule setup m identity collection id decide =
    as_owner setup identity collection (option_map_or decide (rule_named setup m collection id) (refusing RuleNotFound))

-- the live rules of the collection
abbrev pub access_list_reply : MachineState → ℕ → Reply
access_list_reply m collection = AccessListReply (map access_document (access_rules m collection)) collection

-- the document of a rule
abbrev pub access_reply : AccessRow → Reply
access_reply row = AccessReply (access_document row)

-- a rule that no live rule is the same as, where there is room
abbrev pub add_access_answer : MachineState → ℕ → AccessSpec → ℕ → Decision Reply
add_access_answer m collection spec now =
    if list_any (is_same_rule collection spec) m.access then refusing Exists
    else if has_room m.access then doing m now (AccessAdd collection spec) (AccessCreated (next_rule m.access))
    else refusing LimitReached

-- a new permission takes a row, so it wants room too
abbrev pub replace_access_answer : MachineState → Bool → ℕ → AccessRow → Decision Reply
replace_access_answer m write now row =
    if has_room m.access then doing m now (AccessReplace row.number write) (Done Updated) else refusing LimitReached

-- an end of the rule
abbrev pub end_access_answer : MachineState → ℕ → AccessRow → Decision Reply
end_access_answer m now row = doing m now (AccessEnd row.number) (Done Deleted)
