use Rattle.transferd.proofs.CalmLemmas.{calm_run}
use Rattle.transferd.proofs.laws.runs_without_faults_are_calm.Goals as goal

pub returns : goal.returns
returns c setup honest start run t settled lines none = calm_run setup (c.runs_go_on.ensures.run setup) honest t start run settled lines none
