use Rattle.std.proofs.Common.{arith, length, nat_le, true, ◌≡◌}
use Rattle.std.proofs.lemmas.Bool.Decides.{nat_tests}
use Rattle.gt_types.proofs.TextLemmas.{in_utf8_and}
use Rattle.gt_types.proofs.limits.is_pattern.Goals as goal

pub returns-then-pattern-ge1 : goal.returns-then-pattern-ge1
returns-then-pattern-ge1 c =
    let some : nat_le 1 (length c.args.pattern.now) ≡ true = grind (arith, nat_tests, c.if-pattern-ge1.true) in
    in_utf8_and c.args.pattern.now (nat_le 1 (length c.args.pattern.now)) (nat_le (length c.args.pattern.now) 255) c.utf8.pattern some
