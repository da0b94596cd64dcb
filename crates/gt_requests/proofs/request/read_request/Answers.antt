use Rattle.std.proofs.Common.{Err, ap, inr, sym, ◌∙◌}
use Rattle.std.specs.Prelude.{option_copied}
use Rattle.gt_requests.proofs.ToldLemmas.{long_body}
use Rattle.gt_requests.proofs.request.read_request.Goals as goal

pub returns-in-Err-2-clause-fault : goal.returns-in-Err-2-clause-fault
returns-in-Err-2-clause-fault c =
    let given = c.args in
    inr (long_body given.setup.now given.method.now given.target.now (option_copied given.token) given.body.now c.if-body-le-MAX_BODY.false ∙ ap Err (sym c.told.ensures))
