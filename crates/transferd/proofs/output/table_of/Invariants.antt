use Rattle.std.proofs.Common.{length, take, ◌++◌, ◌≡◌}
use Rattle.std.specs.List.{flat_map}
use Rattle.transferd.proofs.output.table_of.Given as goal
use Rattle.transferd.specs.Output.{count_text, task_text}

abbrev pub invariant-loop-line : goal.invariant-loop-line
invariant-loop-line l = l.text.items ≡ count_text l.fn.events (length l.lines) ++ flat_map task_text (take l.line-index l.lines)
