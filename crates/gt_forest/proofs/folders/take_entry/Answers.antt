use Rattle.gt_forest.proofs.MapLemmas.{missing, not_there, puts_entry}
use Rattle.gt_forest.proofs.folders.take_entry.Goals as goal
use Rattle.std.proofs.Common.{IsSome, None, refl, subst}

pub returns-in-Some : goal.returns-in-Some
returns-in-Some c =
    let m = c.args.folders.now in
    let new = c.remove.new.self in
    let lender = c.get_mut.follows.lender new in
    let outer = (c.get_mut.follows.holds new).3 (subst IsSome c.in-Some.ensures.value refl) in
    puts_entry m lender c.args.path.now c.in-Some.contents.now new c.in-Some.ensures.value outer c.args.name.now None c.remove.ensures.updates

pub returns-in_default : goal.returns-in_default
returns-in_default c = absurd (not_there _ (missing c.args.folders.now c.args.path.now c.in_default.ensures.value) c.requires)
