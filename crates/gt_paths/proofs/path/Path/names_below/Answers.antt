use Rattle.std.proofs.Common.{◌∙◌, ap, arith, length}
use Rattle.gt_paths.proofs.PathLemmas.{length-is_under, length-slashed-below_le, part-below, slashed-path}
use Rattle.gt_paths.specs.Path.{slashed}
use Rattle.gt_paths.proofs.path.Path.names_below.Goals as goal

pub slice_bounds-result-count : goal.slice_bounds-result-count
slice_bounds-result-count c =
    let fewer = length-is_under c.args.self.now c.args.folder.now c.requires in
    let whole = ap length (c.as_slice-names.ensures.value ∙ c.self.view_is) in
    let front = ap length (c.as_slice-above.ensures.value ∙ c.folder.view_is) in
    omega (arith, fewer, whole, front)

pub slice_bounds-result-start : goal.slice_bounds-result-start
slice_bounds-result-start c =
    let fewer = length-is_under c.args.self.now c.args.folder.now c.requires in
    let whole = ap length (c.as_slice-names.ensures.value ∙ c.self.view_is) in
    let front = ap length (c.as_slice-above.ensures.value ∙ c.folder.view_is) in
    omega (arith, fewer, whole, front)

pub returns-clause-names : goal.returns-clause-names
returns-clause-names c =
    part-below c.as_slice-names.result.now c.args.self.now c.args.folder.now (length c.as_slice-above.result.now)
    (c.as_slice-names.ensures.value ∙ c.self.view_is) (ap length (c.as_slice-above.ensures.value ∙ c.folder.view_is)) c.requires

pub returns-clause-small : goal.returns-clause-small
returns-clause-small c =
    let whole = slashed-path c.self.inside.names.items c.self.invariant in
    let same = ap (λ l. length (slashed l)) c.self.view_is in
    let part = length-slashed-below_le c.args.self.now c.args.folder.now c.requires in
    let names = ap (λ l. length (slashed l)) (returns-clause-names c) in
    omega (arith, whole.1, same, part, names)
