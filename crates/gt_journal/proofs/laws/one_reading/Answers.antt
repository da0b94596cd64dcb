use Rattle.gt_journal.proofs.Readings.{some_reading}
use Rattle.gt_journal.proofs.Unique.{one_list, apart, one_place}
use Rattle.gt_journal.proofs.laws.one_reading.Goals as goal

pub returns-clause-some : goal.returns-clause-some
returns-clause-some c = some_reading

pub returns-clause-one_list : goal.returns-clause-one_list
returns-clause-one_list c = one_list

pub returns-clause-apart : goal.returns-clause-apart
returns-clause-apart c = apart

pub returns-clause-one_place : goal.returns-clause-one_place
returns-clause-one_place c = one_place
