use Rattle.std.proofs.Common.{◌≡◌, take, length}
use Rattle.gt_paths.specs.Path.{slashed}
use Rattle.gt_paths.proofs.path.Path.slashed_len.Given as goal

abbrev pub invariant-loop-name : goal.invariant-loop-name
invariant-loop-name l = l.len ≡ length (slashed (take l.name-index l.name-items))
