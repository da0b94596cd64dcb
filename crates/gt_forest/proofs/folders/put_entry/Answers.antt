use Rattle.gt_forest.proofs.MapLemmas.{missing, not_there, on_err, puts_entry, same_folders}
use Rattle.gt_forest.proofs.folders.put_entry.Goals as goal
use Rattle.std.proofs.Common.{IsSome, Some, refl, subst}

pub returns-in_err-insert-clause-err : goal.returns-in_err-insert-clause-err
returns-in_err-insert-clause-err c =
    let m = c.args.folders.now in
    let new = c.insert.new.self in
    let lender = c.get_mut.follows.lender new in
    let outer = (c.get_mut.follows.holds new).3 (subst IsSome c.in-Some.ensures.value refl) in
    on_err c.from_residual.result (same_folders m lender c.args.path.now c.in-Some.contents.now new c.in-Some.ensures.value outer c.in_err-insert.ensures.err)

pub returns-in_ok-insert-clause-ok : goal.returns-in_ok-insert-clause-ok
returns-in_ok-insert-clause-ok c =
    let m = c.args.folders.now in
    let new = c.insert.new.self in
    let lender = c.get_mut.follows.lender new in
    let outer = (c.get_mut.follows.holds new).3 (subst IsSome c.in-Some.ensures.value refl) in
    puts_entry m lender c.args.path.now c.in-Some.contents.now new c.in-Some.ensures.value outer c.args.name (Some c.args.node) c.in_ok-insert.ensures.updates

pub returns-in_default-clause-ok : goal.returns-in_default-clause-ok
returns-in_default-clause-ok c = absurd (not_there _ (missing c.args.folders.now c.args.path.now c.in_default.ensures.value) c.requires)
