use Rattle.std.proofs.Common.{[], arith, drop, length, subst, sym, ◌+◌, ◌++◌, ◌<◌, ◌∷◌}
use Rattle.std.specs.BTreeMap.{keys}
use Rattle.toml.specs.View.{items_view, view}
use Rattle.gt_setup.specs.Value.{digests_in}
use Rattle.gt_setup.proofs.IndexLemmas.{takes_append, takes_keys, takes_one}
use Rattle.gt_setup.proofs.StepLemmas.{digests_step, items_drop}
use Rattle.gt_setup.proofs.value.digests_in.Invariants.{TakesBefore}
use Rattle.gt_setup.proofs.value.digests_in.Goals as goal

pub loop-at-preserved : goal.loop-at-preserved
loop-at-preserved c =
    let items = c.args.items.now in
    let at = c.loop-at.at in
    let value = c.index-items-at.result in
    let digest = c.in-Some.digest in
    let old = c.loop-at.taken in
    let new = c.insert.new.self in
    let within : at < length items = omega arith in
    let one = takes_one c.args.row digest old new c.in-Some.ensures.absent c.in_ok-insert.ensures.updates in
    let next : TakesBefore c.args.row items (at + 1) (c.loop-at.digests.items ++ digest ∷ []) c.args.taken.now new = record {
      read =
          digests_step (digests_in (keys c.args.taken.now) (items_view items)) (keys old) (keys new) c.loop-at.digests.items (view value)
          (items_view (drop at items)) (items_view (drop (at + 1) items)) digest c.loop-at.invariant.read
          (items_drop items at value within c.index-items-at.is) (sym c.in-Some.ensures.value) (takes_keys c.args.row (digest ∷ []) old new one);
      takes = takes_append c.args.row c.loop-at.digests.items (digest ∷ []) c.args.taken.now old new c.loop-at.invariant.takes one;
    } in
    subst (λ digests. TakesBefore c.args.row items (at + 1) digests c.args.taken.now new) (sym c.in_ok-push.ensures.items) next
