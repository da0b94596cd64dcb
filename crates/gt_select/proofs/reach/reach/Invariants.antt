use denote.Shadow.{shadow}
use denote.Text.{Utf8}
use Rattle.std.proofs.Common.{chars, length}
use Rattle.gt_select.proofs.PassedLemmas.{Passed}
use Rattle.gt_select.proofs.reach.reach.Given as goal

abbrev pub invariant-pieces : goal.invariant-pieces
invariant-pieces l = shadow (Utf8 l.rest) × shadow (Utf8 l.left) × Passed (chars l.pattern) (chars l.name) (chars l.rest) (chars l.left)

abbrev pub decreases-pieces : goal.decreases-pieces
decreases-pieces l = length l.left
