use Rattle.std.proofs.Common.{rules, ◌≡◌, ◌*◌, pos, ◌∙◌, ap}
use Rattle.std.proofs.lemmas.Result.{IfOk-weaker}
use Rattle.jiff_core.specs.DateTime.{civil_nanos}
use Rattle.gt_values.specs.Moment as spec
use Rattle.gt_values.proofs.PrintLemmas.{printed_is, printed_reads}
use Rattle.gt_values.proofs.moment.Moment.print.Goals as goal

pub returns-clause-text : goal.returns-clause-text
returns-clause-text c =
    let is : civil_nanos c.civil_at.result ≡ pos (c.args.self.now * 1_000_000_000) = c.civil_at.ensures ∙ ap (λ n. pos (n * 1_000_000_000)) c.self.view_is in
    IfOk-weaker c.text_of.result _ _ (λ t e. e ∙ printed_is c.args.self.now c.civil_at.result is) c.text_of.ensures

pub returns-clause-back : goal.returns-clause-back
returns-clause-back c =
    let is : civil_nanos c.civil_at.result ≡ pos (c.args.self.now * 1_000_000_000) = c.civil_at.ensures ∙ ap (λ n. pos (n * 1_000_000_000)) c.self.view_is in
    IfOk-weaker c.text_of.result _ _
    (λ t e. ap spec.moment_of (e ∙ printed_is c.args.self.now c.civil_at.result is)
    ∙ printed_reads c.args.self.now c.civil_at.result is (search rules)) c.text_of.ensures
