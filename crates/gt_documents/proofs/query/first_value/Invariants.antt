use Rattle.std.proofs.Common.{◌≡◌}
use Rattle.form_urlencoded.specs.Parse.{pairs_left}
use Rattle.gt_documents.specs.Query.{find_value, value_at}
use Rattle.gt_documents.proofs.query.first_value.Given as goal

-- the first pair of the name is among those that are left
abbrev pub invariant-loop-pair : goal.invariant-loop-pair
invariant-loop-pair l =
    (goal.iterator-loop-pair).can_next l.pair-iterator
    × (goal.iterator-loop-pair).is_finite l.pair-iterator
    × (find_value l.name (pairs_left l.pair-iterator) ≡ value_at l.name l.query)
