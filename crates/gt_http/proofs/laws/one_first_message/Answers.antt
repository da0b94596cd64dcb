use Rattle.gt_http.proofs.MessageLemmas.{not_refused, one_first}
use Rattle.gt_http.proofs.laws.one_first_message.Goals as goal

pub returns-clause-one : goal.returns-clause-one
returns-clause-one c = one_first

pub returns-clause-apart : goal.returns-clause-apart
returns-clause-apart c = not_refused
