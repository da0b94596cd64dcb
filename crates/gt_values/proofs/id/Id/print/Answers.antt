-- What `uuid` writes is the printed text, and reads back.
use Rattle.std.proofs.Common.{rules}
use Rattle.std.proofs.lemmas.Result.{IfOk-weaker}
use Rattle.gt_values.proofs.FormLemmas.{prints}
use Rattle.gt_values.proofs.id.Id.print.Goals as goal

pub returns-clause-text : goal.returns-clause-text
returns-clause-text c =
    IfOk-weaker c.from_str.result _ _
    (λ t e. (prints c.args.self.now _ (search rules) (search rules)).0) c.from_str.ensures.ok

pub returns-clause-back : goal.returns-clause-back
returns-clause-back c =
    IfOk-weaker c.from_str.result _ _
    (λ t e. (prints c.args.self.now _ (search rules) (search rules)).1) c.from_str.ensures.ok
