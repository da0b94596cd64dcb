use Rattle.std.proofs.Common.{subst, ap, arith, ◌++◌, ◌+◌, ◌<◌, length, take}
use Rattle.gt_paths.proofs.PathLemmas.{joined-take_pushed, length-slashed-take_le, length-slashed-take_pushed, length-take_pushed}
use Rattle.gt_paths.specs.Draft.{IsDraftOf}
use Rattle.gt_paths.proofs.draft.Draft.extend.Goals as goal

pub push-requires-clause-bytes : goal.push-requires-clause-bytes
push-requires-clause-bytes c =
    let i = c.loop-name.name-index in
    let step = length-slashed-take_pushed c.args.more.now i c.name-item.result (omega arith) c.name-item.is in
    let part = length-slashed-take_le c.args.more.now (i + 1) in
    let same = ap length c.as_str.ensures.value in
    omega (arith, step, part, same)

pub loop-name-preserved : goal.loop-name-preserved
loop-name-preserved c =
    let more = c.args.more.now in
    let i = c.loop-name.name-index in
    let name = c.name-item.result in
    let before : i < length more = c.loop-name-test.true in
    let same = ap length c.as_str.ensures.value in
    let longer = length-slashed-take_pushed more i name before c.name-item.is in
    let count = length-take_pushed more i name before c.name-item.is in
    record {
      draft = λ names draft.
          subst (IsDraftOf c.push.new.self)
          (joined-take_pushed names more i name c.as_str.result.now c.as_str.ensures.value before c.name-item.is)
          (c.in_ok-push.ensures.draft (names ++ take i more) (c.loop-name.invariant.draft names draft));
      depth = omega (arith, count, c.in_ok-push.ensures.depth);
      bytes = omega (arith, longer, same, c.in_ok-push.ensures.bytes);
    }
