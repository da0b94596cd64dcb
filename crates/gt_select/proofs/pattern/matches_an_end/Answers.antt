use Rattle.std.proofs.Common.{◌∙◌, sym}
use Rattle.std.specs.Prelude.{chars}
use Rattle.gt_select.proofs.MatchLemmas.{of_whole}
use Rattle.gt_select.specs.Pattern.{pieces_after}
use Rattle.gt_select.proofs.pattern.matches_an_end.Goals as goal

pub returns-in-Ended-true : goal.returns-in-Ended-true
returns-in-Ended-true c =
    sym (c.ends.invariant.2
    ∙ of_whole (pieces_after 0 (chars c.ends.behind.now)) (chars c.ends.from.now) (c.in-Ended-true.ensures ∙ c.in-Ended-true.field-0-test))
