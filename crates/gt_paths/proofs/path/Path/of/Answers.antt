use Rattle.std.proofs.Common.{◌≡◌, ◌≤◌, subst, sym, arith, true, length}
use Rattle.gt_paths.proofs.PathLemmas.{is_path-names}
use Rattle.gt_paths.specs.Path.{is_path, slashed}
use Rattle.gt_paths.proofs.path.Path.of.Goals as goal

pub invariant_of-result : goal.invariant_of-result
invariant_of-result c =
    let names = c.requires.0 in
    let draft = c.requires.1 in
    let few : length names ≤ 64 = omega (arith, draft.depth) in
    let small : length (slashed names) ≤ 4096 = omega (arith, draft.bytes) in
    subst (λ l. is_path l ≡ true) (sym (draft.held few small)) (is_path-names names draft.named few small)

pub returns-clause-path : goal.returns-clause-path
returns-clause-path c = invariant_of-result c
