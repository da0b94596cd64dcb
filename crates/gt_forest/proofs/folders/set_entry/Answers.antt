use Rattle.gt_forest.proofs.MapLemmas.{found, missing, not_there, puts_entry}
use Rattle.gt_forest.proofs.folders.set_entry.Goals as goal
use Rattle.gt_forest.specs.Rows.{entry_of}
use Rattle.std.proofs.Common.{IsSome, Some, ap, option_and_then, refl, subst, sym, ◌∙◌}

pub returns-in-Some-get_mut : goal.returns-in-Some-get_mut
returns-in-Some-get_mut c =
    let m = c.args.folders.now in
    let new = c.get_mut-in-Some.follows.lender c.args.node in
    let lender = c.get_mut.follows.lender new in
    let outer = (c.get_mut.follows.holds new).3 (subst IsSome c.in-Some.ensures.value refl) in
    let inner = (c.get_mut-in-Some.follows.holds c.args.node).3 (subst IsSome c.in-Some-get_mut.ensures.value refl) in
    puts_entry m lender c.args.path.now c.in-Some.contents.now new c.in-Some.ensures.value outer c.args.name.now (Some c.args.node) inner

pub returns-in_default-get_mut : goal.returns-in_default-get_mut
returns-in_default-get_mut c =
    let there = found c.args.folders.now c.args.path.now c.in-Some.contents.now c.in-Some.ensures.value in
    absurd (not_there _ (ap (option_and_then (λ contents. entry_of contents c.args.name.now)) there ∙ sym c.in_default-get_mut.ensures.value) c.requires)

pub returns-in_default : goal.returns-in_default
returns-in_default c =
    let none = missing c.args.folders.now c.args.path.now c.in_default.ensures.value in
    absurd (not_there _ (ap (option_and_then (λ contents. entry_of contents c.args.name.now)) none) c.requires)
