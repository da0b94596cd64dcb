use Rattle.std.proofs.Common.{rules, arith}
use Rattle.gt_journal.proofs.Parse.{spells}
use Rattle.gt_journal.proofs.reading.told_size.Goals as goal

pub returns-clause-spelled : goal.returns-clause-spelled
returns-clause-spelled c = spells c.args.header.now _ c.requires (λ i. omega (arith, c.type_inv.header i)) (search rules)
