use Rattle.std.proofs.Common.{ap, arith, length, ◌+◌}
use Rattle.gt_paths.proofs.PathLemmas.{length-slashed-take_le, length-slashed-take_pushed, slashed-path}
use Rattle.gt_paths.specs.Path.{slashed}
use Rattle.gt_paths.proofs.path.Path.slashed_len.Goals as goal

pub overflow_add-len-in-loop-name : goal.overflow_add-len-in-loop-name
overflow_add-len-in-loop-name c =
    let names = c.deref-name-items.result.now in
    let i = c.loop-name.name-index in
    let whole = slashed-path c.self.inside.names.items c.self.invariant in
    let same = ap (λ l. length (slashed l)) c.deref-name-items.ensures.value in
    let step = length-slashed-take_pushed names i c.name-item.result (omega arith) c.name-item.is in
    let part = length-slashed-take_le names (i + 1) in
    let shown = ap length c.as_str.ensures.value in
    omega (arith, whole.1, same, step, part, shown)

pub loop-name-preserved : goal.loop-name-preserved
loop-name-preserved c =
    let step = length-slashed-take_pushed c.deref-name-items.result.now c.loop-name.name-index c.name-item.result (omega arith) c.name-item.is in
    let shown = ap length c.as_str.ensures.value in
    omega (arith, step, shown)
