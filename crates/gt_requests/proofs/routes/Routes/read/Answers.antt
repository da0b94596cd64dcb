use Rattle.gt_requests.specs.Request.{request_of}
use Rattle.gt_requests.proofs.ToldLemmas.{told_fault, told_memory}
use Rattle.gt_requests.proofs.routes.Routes.read.Goals as goal

pub returns-in-Err-clause-fault : goal.returns-in-Err-clause-fault
unfolding request_of
returns-in-Err-clause-fault c = told_fault _ c.in-Err.fault c.told.result c.in-Err.ensures.value c.told.ensures

pub returns-in-Err-clause-memory : goal.returns-in-Err-clause-memory
returns-in-Err-clause-memory c = λ e. told_memory c.in-Err.fault c.told.result _ c.told.ensures c.in-Err.ensures.memory (cc e)
