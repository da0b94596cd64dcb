-- The rest of a line goes on where its command line ended, so what is said of the rest is turned into what is said of the whole.
use Rattle.gt_script.proofs.FrontLemmas.{line_read, line_refused, line_stopped}
use Rattle.gt_script.proofs.reader.read_script_line.Goals as goal

pub returns-in-Ok-clause-line : goal.returns-in-Ok-clause-line
returns-in-Ok-clause-line g c =
    line_read c.args.setup.now c.in-Ok.command_line c.args.taken.now (g.S.Source.words.left c.args.script.now) (g.S.Source.words.left c.read_command_line.new.script) (g.S.Source.words.left c.read_rest.new.script)
    c.read_command_line.new.taken (g.S.Source.words.told c.args.script.now) (g.S.Source.words.told c.read_command_line.new.script) c.read_command_line.ensures.same.told c.in-Ok.ensures.command
    c.read_rest.new.taken c.read_rest.result c.read_rest.ensures.line

pub returns-in-Ok-clause-refused : goal.returns-in-Ok-clause-refused
returns-in-Ok-clause-refused g c =
    line_refused c.args.setup.now c.in-Ok.command_line c.args.taken.now (g.S.Source.words.left c.args.script.now) (g.S.Source.words.left c.read_command_line.new.script) (g.S.Source.words.left c.read_rest.new.script)
    c.read_command_line.new.taken (g.S.Source.words.told c.args.script.now) (g.S.Source.words.told c.read_command_line.new.script) c.read_command_line.ensures.same.told c.in-Ok.ensures.command
    c.args.number c.read_rest.result c.read_rest.ensures.refused

pub returns-in-Ok-clause-stopped : goal.returns-in-Ok-clause-stopped
returns-in-Ok-clause-stopped g c =
    line_stopped c.args.setup.now c.in-Ok.command_line c.args.taken.now (g.S.Source.words.left c.args.script.now) (g.S.Source.words.left c.read_command_line.new.script) (g.S.Source.words.left c.read_rest.new.script)
    c.read_command_line.new.taken (g.S.Source.words.told c.args.script.now) (g.S.Source.words.told c.read_command_line.new.script) c.read_command_line.ensures.same.told c.in-Ok.ensures.command
    c.read_rest.new.taken c.read_rest.result c.read_rest.ensures.stopped
