-- Which replies can be printed: their identifiers are made from numbers of 6 bytes, their collections are the setup's.
use Rattle.std.specs.List.{list_all}
use Rattle.std.specs.Prelude.{Bool, false, nat_lt, true, ℕ, ◌&&◌, ◌^◌}
use Rattle.gt_types.specs.declared.options.TaskOptions.{TaskOptions}
use Rattle.gt_types.specs.declared.options.TaskOptions.TheVariants.{Delete as OfDelete, Transfer as OfTransfer}
use Rattle.gt_types.specs.declared.reply.AccessDocument.{AccessDocument}
use Rattle.gt_types.specs.declared.reply.Reply.{Reply}
use Rattle.gt_types.specs.declared.reply.Reply.TheVariants.{Access, AccessCreated, AccessList, Done, Endpoint, Identifier, Pause, PauseCreated, PauseList, Refused, Skipped, Submitted, Successes, Task, Tasks}
use Rattle.gt_types.specs.declared.reply.TaskDocument.{TaskDocument}

-- a number of 6 bytes, of which an identifier is made
abbrev pub is_number : ℕ → Bool
is_number n = nat_lt n (2 ^ 48)

-- the collections that are shown
abbrev pub are_known : ℕ → TaskOptions → Bool
are_known count (OfTransfer options) = nat_lt options.source count && nat_lt options.destination count
are_known count (OfDelete options) = nat_lt options.collection count

-- a task's number, and its collections
abbrev pub is_printable_task : ℕ → TaskDocument → Bool
is_printable_task count task = is_number task.number && are_known count task.options

-- a rule's number
abbrev pub is_printable_access : AccessDocument → Bool
is_printable_access rule = is_number rule.number

-- whether the reply can be printed, where the collections are so many; no pause rule is printed yet
abbrev pub is_printable : ℕ → Reply → Bool
is_printable count (Identifier number) = is_number number
is_printable count (Submitted is_delete is_new submission task) = is_number task
is_printable count (Done code) = true
is_printable count (AccessCreated rule) = is_number rule
is_printable count (PauseCreated rule) = false
is_printable count (Task task) = is_printable_task count task
is_printable count (Tasks rows page) = list_all (is_printable_task count) rows
is_printable count (Successes rows page) = true
is_printable count (Skipped rows page) = true
is_printable count (Access rule) = is_printable_access rule
is_printable count (AccessList rows collection) = list_all is_printable_access rows && nat_lt collection count
is_printable count (Pause rule) = false
is_printable count (PauseList rows) = false
is_printable count (Endpoint collection) = nat_lt collection count
is_printable count (Refused code) = true
