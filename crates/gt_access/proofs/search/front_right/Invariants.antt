use Rattle.std.proofs.Common.{max, take, ◌≡◌}
use Rattle.gt_access.specs.Best.{rank, top}
use Rattle.gt_access.specs.Indexed.{is_rule_at}
use Rattle.gt_access.proofs.FrontLemmas.{group_top}
use Rattle.gt_access.proofs.search.front_right.Given as goal
use Rattle.gt_types.specs.declared.rule.Principal.TheVariants.{AllAuthenticated, Anonymous, Identity}

-- the greatest rank of the identity, of anybody, and of the groups so far
abbrev pub invariant-loop-group : goal.invariant-loop-group
invariant-loop-group l =
    rank l.best
    ≡ max
    (max (top (is_rule_at l.collection l.names (Identity l.who.identity)) l.rows)
    (max (top (is_rule_at l.collection l.names AllAuthenticated) l.rows) (top (is_rule_at l.collection l.names Anonymous) l.rows)))
    (group_top l.collection l.names l.rows (take l.group-index l.group-items))
