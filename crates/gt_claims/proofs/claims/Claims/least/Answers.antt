use Rattle.std.proofs.Common.{None, Some, ap, arith, fold, length, sym, take, ◌∙◌, ◌≡◌, ◌≤◌}
use Rattle.std.proofs.lemmas.Bool.{cond-false, cond-true}
use Rattle.std.proofs.lemmas.List.{take_all}
use Rattle.std.proofs.lemmas.List.Sums.{fold_more}
use Rattle.std.specs.FinMap.{from_entries}
use Rattle.std.specs.Ordering.{nat_cmp}
use Rattle.gt_claims.proofs.LeastLemmas.{least_claimed, lesser, met, none_claimed}
use Rattle.gt_claims.proofs.claims.Claims.least.Goals as goal
use Rattle.gt_claims.proofs.claims.Claims.least.Goals.{else-passes, then-passes}

pub loop-item-preserved : goal.loop-item-preserved
loop-item-preserved g c =
    let hits = g.T.Test.test c.args.asked.now in
    let items = c.deref-item-items.result.now in
    let entry = c.loop-item-item.result in
    let met_now : c.if-passes.least ≡ met hits c.loop-item.least entry =
    elim c.if-passes.branch [
      | then-passes w ↦
          w.least-is ∙ ap Some w.lesser.ensures
          ∙ sym (cond-true (hits entry.1) (Some (lesser entry.0 c.loop-item.least)) c.loop-item.least (sym c.passes.ensures ∙ w.if-passes.true))
      | else-passes w ↦
          w.least-is
          ∙ sym (cond-false (hits entry.1) (Some (lesser entry.0 c.loop-item.least)) c.loop-item.least (sym c.passes.ensures ∙ w.if-passes.false))
    ] in
    met_now
    ∙ ap (λ least. met hits least entry) c.loop-item.invariant
    ∙ ap (met hits (fold (met hits) None (take c.loop-item.item-index items))) c.loop-item-item.is
    ∙ sym (fold_more (met hits) None items c.loop-item.item-index entry (omega arith))

pub returns-clause-least : goal.returns-clause-least
returns-clause-least g c =
    let hits = g.T.Test.test c.args.asked.now in
    let items = c.deref-item-items.result.now in
    let all : length items ≤ c.loop-item.item-index = c.loop-item-test.false in
    let met_all : c.loop-item.least ≡ fold (met hits) None c.self.inside.entries.items =
    c.loop-item.invariant ∙ ap (fold (met hits) None) (take_all c.loop-item.item-index items all ∙ c.deref-item-items.ensures.value) in
    let claims : from_entries {R = nat_cmp} c.self.inside.entries.items ≡ c.args.self.now.claims = ap (λ v. v.claims) c.self.view_is in
    least_claimed hits c.self.inside.entries.items c.args.self.now.claims c.loop-item.least
    c.self.invariant claims met_all

pub returns-clause-none : goal.returns-clause-none
returns-clause-none g c = λ none.
    let hits = g.T.Test.test c.args.asked.now in
    let items = c.deref-item-items.result.now in
    let all : length items ≤ c.loop-item.item-index = c.loop-item-test.false in
    let met_all : c.loop-item.least ≡ fold (met hits) None c.self.inside.entries.items =
    c.loop-item.invariant ∙ ap (fold (met hits) None) (take_all c.loop-item.item-index items all ∙ c.deref-item-items.ensures.value) in
    let claims : from_entries {R = nat_cmp} c.self.inside.entries.items ≡ c.args.self.now.claims = ap (λ v. v.claims) c.self.view_is in
    none_claimed hits c.self.inside.entries.items c.args.self.now.claims c.loop-item.least
    c.self.invariant claims met_all none
