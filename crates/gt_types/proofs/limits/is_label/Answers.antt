use Rattle.std.proofs.Common.{ap, length, nat_le, ◌∙◌}
use Rattle.std.specs.Str.{chars}
use Rattle.gt_types.proofs.TextLemmas.{in_utf8}
use Rattle.gt_types.proofs.limits.is_label.Goals as goal

pub returns : goal.returns
returns c =
    ap (λ count. nat_le count 128) c.count_of.ensures ∙ in_utf8 c.args.label.now (nat_le (length (chars c.args.label.now)) 128) c.utf8.label
