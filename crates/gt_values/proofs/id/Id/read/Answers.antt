use Rattle.std.proofs.Common.{rules, sym, ◌∙◌, true≢false}
use Rattle.uuid.specs.Text.{parsed}
use Rattle.gt_values.proofs.IdLemmas.{no_value, refused, read_by_uuid}
use Rattle.gt_values.proofs.id.Id.read.Goals as goal

pub returns-then-opens_otherwise-clause-value : goal.returns-then-opens_otherwise-clause-value
returns-then-opens_otherwise-clause-value c = sym (refused c.args.text.now (search rules))

pub returns-in-Ok-clause-value : goal.returns-in-Ok-clause-value
returns-in-Ok-clause-value c = c.in-Ok.ensures.bytes ∙ sym (read_by_uuid c.args.text.now (search rules))

pub returns-in-Err-clause-value : goal.returns-in-Err-clause-value
returns-in-Err-clause-value c = no_value (parsed c.args.text.now) (λ h. true≢false (sym (c.in-Err.ensures.ok.1 h))) ∙ sym (read_by_uuid c.args.text.now (search rules))
