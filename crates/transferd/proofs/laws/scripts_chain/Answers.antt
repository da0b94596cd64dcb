use Rattle.transferd.proofs.ChainLemmas.{finds_left}
use Rattle.transferd.proofs.laws.scripts_chain.Goals as goal

pub returns-clause-at_once : goal.returns-clause-at_once
returns-clause-at_once g c setup old mid new few honest first second =
    finds_left setup (λ a b file. c.one_history.ensures.one setup a b file few) g.D.Disk.words old mid mid new (g.met.D.Disk.laws.reads_now mid honest) first second

pub returns-clause-crashed : goal.returns-clause-crashed
returns-clause-crashed g c setup old mid again new few left first second =
    finds_left setup (λ a b file. c.one_history.ensures.one setup a b file few) g.D.Disk.words old mid again new left first second
