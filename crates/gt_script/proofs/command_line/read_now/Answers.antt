use Rattle.std.proofs.Common.{arith, sym, ◌∙◌}
use Rattle.gt_script.proofs.CommandLemmas.{moment_there}
use Rattle.gt_script.proofs.command_line.read_now.Goals as goal

pub returns-in-None-clause-none : goal.returns-in-None-clause-none
returns-in-None-clause-none c none moment is e =
    moment_there c.in_ok-number.number moment c.of.result (omega arith) (sym c.in_ok-number.ensures.some.0 ∙ e) is c.of.ensures c.in-None.is
