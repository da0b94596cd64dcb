use Rattle.std.proofs.Common.{length, ◌<◌, ◌^◌}
use Rattle.transferd.proofs.ExitLemmas.{one_exit}
use Rattle.transferd.proofs.laws.one_exit_where_nothing_fails.Goals as goal

pub returns : goal.returns
returns c setup script file exit other are_few one two =
    one_exit c.a_script_has_one_reading.ensures.reading c.a_script_has_one_reading.ensures.whole c.a_script_has_one_reading.ensures.none
    (λ opened. length opened.collections < 2 ^ 32) c.one_history.ensures.apart c.one_history.ensures.one_damage setup script file are_few exit other one two
