use Rattle.std.proofs.Common.{ap, drop, length, rules, take, ◌-◌, ◌∙◌, ◌≡◌}
use Rattle.std.proofs.lemmas.List.{take_rest}
use Rattle.std.proofs.lemmas.List.Sorted.{IsPartitionPoint-from_clause}
use Rattle.gt_index.specs.Index.{Rises, key_at}
use Rattle.gt_index.specs.Split.{IsSplit, is_upto}
use Rattle.gt_index.proofs.OrderLemmas.{upto-before}
use Rattle.gt_index.proofs.RiseLemmas.{partitioned, split_is}
use Rattle.gt_index.proofs.RunLemmas.{rises_drop, run_is}
use Rattle.gt_index.proofs.index.Index.run.Goals as goal

pub returns : goal.returns
returns g c = λ keeps index.
    let cmp = g.R.Key.Ord.cmp in
    let total = g.met.R.Key.Ord.total in
    let key = g.R.Keyed.key in
    let wanted = g.Q.Asked.asked c.args.key.now in
    let rows = c.args.rows.now in
    let places = c.args.self.now.places in
    let first = c.first_at-first.result in
    let count = c.partition_point-count.result in
    let low = c.first_at-first.ensures.split index.rising in
    let part = take (length c.deref.result.now - first) (drop first c.deref.result.now) in
    let whole : part ≡ drop first places =
    take_rest c.deref.result.now first ∙ ap (drop first) (c.deref.ensures.value ∙ ap (λ v. v.places) c.self.view_is) in
    let test = is_upto cmp (key_at key rows) wanted in
    let rises : Rises cmp (key_at key rows) part = rw whole (rises_drop cmp (key_at key rows) first places index.rising) in
    let high : IsSplit test part count =
    split_is test part count c.partition_point-count.ensures.bound
    (IsPartitionPoint-from_clause test part count c.partition_point-count.ensures.partitioned
    (partitioned cmp total (key_at key rows) test (λ a b before upto. upto-before cmp total (key_at key rows) wanted a b before upto) part rises)
    (λ a r f' k. search rules)) in
    let high_rest : IsSplit test (drop first places) count = rw whole at high in
    ap (take count) whole ∙ run_is cmp total key wanted rows places first count keeps index low high_rest
