use Rattle.gt_script.proofs.ReadingLemmas.{nothing_more, one_reading, same_lines}
use Rattle.gt_script.proofs.laws.a_script_has_one_reading.Goals as goal

pub returns-clause-reading : goal.returns-clause-reading
returns-clause-reading c = one_reading

pub returns-clause-whole : goal.returns-clause-whole
returns-clause-whole c = same_lines

pub returns-clause-none : goal.returns-clause-none
returns-clause-none c = nothing_more
