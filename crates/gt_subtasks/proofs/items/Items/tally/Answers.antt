use Rattle.std.proofs.Common.{arith, ap, length, ◌<◌, ◌^◌, ◌∙◌, ◌≡◌}
use Rattle.std.specs.Prelude.{unwrap_or}
use Rattle.gt_subtasks.specs.Tally.{no_items, tally_of}
use Rattle.gt_subtasks.proofs.TallyLemmas.{tally_within}
use Rattle.gt_subtasks.proofs.items.Items.tally.Goals as goal

pub returns-in-Some-clause-within : goal.returns-in-Some-clause-within
returns-in-Some-clause-within c =
    let rows = c.self.inside.rows.rows in
    let few : length rows < 2 ^ 32 = omega (arith, c.self.invariant.few) in
    let exact : c.in-Some.tally.now ≡ tally_of c.args.task rows = ap (λ o. unwrap_or o no_items) c.in-Some.ensures.value ∙ c.self.invariant.exact c.args.task in
    rw exact (tally_within c.args.task rows c.self.invariant.small few)
