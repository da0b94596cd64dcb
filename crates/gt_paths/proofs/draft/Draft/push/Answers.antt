use Rattle.std.proofs.Common.{arith, refl, ◌+◌, length}
use Rattle.gt_paths.proofs.DraftLemmas.{pushed}
use Rattle.gt_paths.specs.declared.draft.Draft.{Draft}
use Rattle.gt_paths.proofs.draft.Draft.push.Goals as goal
use Rattle.gt_paths.proofs.draft.Draft.push.Goals.{then-depth-le-MAX_NAMES+then-bytes-le-MAX_BYTES+in_ok-name+in_ok-push, else-depth-le-MAX_NAMES, else-depth-le-MAX_NAMES-via-then-depth-le-MAX_NAMES+else-bytes-le-MAX_BYTES, else-depth-le-MAX_NAMES-via-else-depth-le-MAX_NAMES}

pub returns-clause-draft : goal.returns-clause-draft
returns-clause-draft c =
    let new : Draft = record {
      names = c.if-depth-le-MAX_NAMES.self.names;
      depth = c.args.self.now.depth + 1;
      bytes = c.args.self.now.bytes + length c.args.name.now + 1;
    } in
    λ names draft. pushed c.args.self.now new names c.args.name.now draft c.requires.name refl refl (λ few small.
    elim c.if-depth-le-MAX_NAMES.branch [
      | then-depth-le-MAX_NAMES+then-bytes-le-MAX_BYTES+in_ok-name+in_ok-push w ↦
          rw (w.self-is, w.in_ok-push.ensures.items, w.in_ok-name.ensures) refl
      | else-depth-le-MAX_NAMES w ↦ elim w.else-depth-le-MAX_NAMES.branch [
        | else-depth-le-MAX_NAMES-via-then-depth-le-MAX_NAMES+else-bytes-le-MAX_BYTES v ↦ absurd (omega arith)
        | else-depth-le-MAX_NAMES-via-else-depth-le-MAX_NAMES v ↦ absurd (omega arith)
      ]
    ])
