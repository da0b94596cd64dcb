use Rattle.gt_forest.proofs.look.list_from.Goals as goal
use Rattle.std.proofs.lemmas.Map.Views.{All-found}
use Rattle.std.specs.Cmp.Lexicographic.{nat_list_cmp_total}

pub returns-clause-indexed : goal.returns-clause-indexed
returns-clause-indexed c =
    let ordered = c.range-name-items.ensures.ordered in
    record { rises = ordered; each = All-found nat_list_cmp_total c.args.contents.now ordered }
