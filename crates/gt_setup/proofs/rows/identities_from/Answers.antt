use Rattle.std.proofs.Common.{[], arith, drop, length, subst, sym, ◌+◌, ◌++◌, ◌<◌, ◌∷◌}
use Rattle.std.proofs.lemmas.List.{length_push}
use Rattle.std.specs.BTreeMap.{keys}
use Rattle.toml.specs.View.{items_view, view}
use Rattle.gt_setup.specs.Grammar.{identities_from}
use Rattle.gt_setup.proofs.IndexLemmas.{index_takes, takes_keys}
use Rattle.gt_setup.proofs.StepLemmas.{identities_step, items_drop}
use Rattle.gt_setup.proofs.rows.identities_from.Invariants.{ReadsBefore}
use Rattle.gt_setup.proofs.rows.identities_from.Goals as goal

pub loop-number-preserved : goal.loop-number-preserved
loop-number-preserved c =
    let rows = c.args.rows.now in
    let number = c.loop-number.number in
    let row = c.index-rows-number.result in
    let found = c.loop-number.identities.items in
    let identity = c.in_ok-identity.identity in
    let old = c.loop-number.taken in
    let new = c.identity_at.new.taken in
    let within : number < length rows = omega arith in
    let next : ReadsBefore rows (number + 1) (found ++ identity ∷ []) new = record {
      read =
          identities_step (identities_from 0 [] (items_view rows)) number (keys old) (keys new) found (view row)
          (items_view (drop number rows)) (items_view (drop (number + 1) rows)) identity c.loop-number.invariant.read
          (items_drop rows number row within c.index-rows-number.is) c.in_ok-identity.ensures.ok
          (takes_keys number identity.tokens old new c.in_ok-identity.ensures.taken);
      index = index_takes found identity number old new c.loop-number.invariant.index c.in_ok-identity.ensures.taken c.loop-number.invariant.count;
      count = omega (arith, length_push found identity, c.loop-number.invariant.count);
    } in
    subst (λ identities. ReadsBefore rows (number + 1) identities new) (sym c.in_ok-push.ensures.items) next
