use Rattle.std.proofs.Common.{ap, rules, ◌∙◌, ◌≡◌}
use Rattle.std.proofs.lemmas.List.Sorted.{IsPartitionPoint-from_clause}
use Rattle.gt_index.specs.Index.{Rises, key_at}
use Rattle.gt_index.specs.Split.{IsSplit, is_below}
use Rattle.gt_index.proofs.OrderLemmas.{below-before}
use Rattle.gt_index.proofs.RiseLemmas.{partitioned, split_is}
use Rattle.gt_index.proofs.index.Index.first_at.Goals as goal

pub returns-clause-split : goal.returns-clause-split
returns-clause-split g c = λ rises.
    let key = key_at g.R.Keyed.key c.args.rows.now in
    let cmp = g.R.Key.Ord.cmp in
    let total = g.met.R.Key.Ord.total in
    let wanted = g.Q.Asked.asked c.args.key.now in
    let places : c.deref.result.now ≡ c.args.self.now.places = c.deref.ensures.value ∙ ap (λ v. v.places) c.self.view_is in
    let test = is_below cmp key wanted in
    let rises_here : Rises cmp key c.deref.result.now = rw places rises in
    let split : IsSplit test c.deref.result.now c.partition_point.result =
    split_is test c.deref.result.now c.partition_point.result c.partition_point.ensures.bound
    (IsPartitionPoint-from_clause test c.deref.result.now c.partition_point.result c.partition_point.ensures.partitioned
    (partitioned cmp total key test (λ a b first second. below-before cmp total key wanted a b first second) c.deref.result.now rises_here)
    (λ a r f' k. search rules)) in
    rw places at split
