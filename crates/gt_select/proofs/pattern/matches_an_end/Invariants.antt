use denote.Shadow.{shadow}
use denote.Text.{Utf8}
use Rattle.std.proofs.Common.{◌≡◌, ◌≤◌, ◌+◌, ◌*◌, chars, length}
use Rattle.gt_select.specs.Pattern.{pieces_after}
use Rattle.gt_select.specs.Reached.{is_match_of_end}
use Rattle.gt_select.proofs.pattern.matches_an_end.Given as goal

abbrev pub invariant-ends : goal.invariant-ends
invariant-ends l =
    shadow (Utf8 l.behind) × shadow (Utf8 l.from)
    × (is_match_of_end (pieces_after 0 (chars l.pattern)) (chars l.name) ≡ is_match_of_end (pieces_after 0 (chars l.behind)) (chars l.from))
    × (length (chars l.from) ≤ length (chars l.name))

abbrev pub decreases-ends : goal.decreases-ends
decreases-ends l = length (chars l.behind) * (length (chars l.name) + 1) + length (chars l.from)
