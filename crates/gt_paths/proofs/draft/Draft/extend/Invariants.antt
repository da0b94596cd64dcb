use Rattle.std.proofs.Common.{◌≡◌, ◌+◌, ◌++◌, take, length}
use Rattle.gt_paths.specs.Draft.{IsDraftOf}
use Rattle.gt_paths.specs.Path.{PathValue, slashed}
use Rattle.gt_paths.specs.declared.draft.Draft.{Draft}
use Rattle.gt_paths.proofs.draft.Draft.extend.Given as goal

-- the names before this one have been added
pub record Extends (old new : Draft) (more : PathValue) : Type 0 where
  pub draft : (names : PathValue) → IsDraftOf old names → IsDraftOf new (names ++ more)
  pub depth : new.depth ≡ old.depth + length more
  pub bytes : new.bytes ≡ old.bytes + length (slashed more)

abbrev pub invariant-loop-name : goal.invariant-loop-name
invariant-loop-name l = Extends l.initial.self l.self (take l.name-index l.more)
