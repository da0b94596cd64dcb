use Rattle.std.proofs.Common.{◌≡◌, take, string_bytes}
use Rattle.gt_paths.specs.Path.{slashed}
use Rattle.gt_paths.proofs.path.Path.print.Given as goal

abbrev pub invariant-loop-name : goal.invariant-loop-name
invariant-loop-name l = string_bytes l.text ≡ slashed (take l.name-index l.name-items)
