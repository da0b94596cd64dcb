use Rattle.std.proofs.Common.{rules}
use Rattle.gt_requests.proofs.SetupLemmas.{caller_is_known}
use Rattle.gt_requests.proofs.request.caller.Goals as goal

pub returns-clause-known : goal.returns-clause-known
returns-clause-known c = caller_is_known c.args.setup.now c.in_ok-token.field-0.now c.in_ok-identity_of.field-0.now (search rules)
