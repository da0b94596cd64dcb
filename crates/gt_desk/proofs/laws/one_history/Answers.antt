use Rattle.gt_desk.proofs.Readings.{one_damage, one_history, stands_undamaged}
use Rattle.gt_desk.proofs.laws.one_history.Goals as goal

pub returns-clause-one : goal.returns-clause-one
returns-clause-one c setup a b file few at_a at_b =
    one_history setup few c.steps_are_recordable.ensures c.record_text_reads_back.ensures c.one_reading.ensures.one_list c.one_reading.ensures.apart a b file at_a at_b

pub returns-clause-apart : goal.returns-clause-apart
returns-clause-apart c setup history number file few stands damage =
    stands_undamaged setup few c.steps_are_recordable.ensures c.record_text_reads_back.ensures c.one_reading.ensures.one_list c.one_reading.ensures.apart history number file stands damage

pub returns-clause-one_damage : goal.returns-clause-one_damage
returns-clause-one_damage c setup a b file few one other =
    one_damage setup few c.steps_are_recordable.ensures c.record_text_reads_back.ensures c.one_reading.ensures.one_list c.one_reading.ensures.apart c.one_reading.ensures.one_place a b file one other
