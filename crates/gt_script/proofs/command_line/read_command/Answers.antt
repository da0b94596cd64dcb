use Rattle.gt_script.proofs.CommandLemmas.{command_utf8}
use Rattle.gt_script.proofs.command_line.read_command.Goals as goal

pub returns-in_default-clause-none : goal.returns-in_default-clause-none
returns-in_default-clause-none c none line is = c.in_default.ensures.cases.0 (command_utf8 c.args.setup.now line c.args.command.now is)
