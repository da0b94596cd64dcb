use denote.Shadow.{shadow}
use denote.Text.{Utf8}
use Rattle.std.proofs.Common.{◌≡◌, ◌∷◌, chars, length}
use Rattle.gt_select.specs.Pattern.{is_in, ranges}
use Rattle.gt_select.proofs.class.is_in_class.Given as goal

abbrev pub invariant-members : goal.invariant-members
invariant-members l =
    shadow (Utf8 l.rest) × (is_in l.character (ranges (l.fn.first ∷ chars l.fn.inner)) ≡ is_in l.character (ranges (l.low ∷ chars l.rest)))

abbrev pub decreases-members : goal.decreases-members
decreases-members l = length l.rest
