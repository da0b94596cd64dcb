use Rattle.std.proofs.Common.{None, [], ap, arith, false, inr, length, subst, sym, take, true, ◌++◌, ◌<◌, ◌∙◌, ◌∷◌, ◌≡◌}
use Rattle.std.proofs.lemmas.List.{length-take-le, take_more}
use Rattle.std.specs.List.{list_any}
use Rattle.std.specs.Option.{is_some}
use Rattle.std.specs.Str.{bytes_eq}
use Rattle.gt_setup.specs.Grammar.{none_or}
use Rattle.gt_setup.specs.Indexed.{IsIndexOf, place_at}
use Rattle.gt_setup.specs.declared.fault.SetupFault.TheVariants.{Twice}
use Rattle.gt_setup.proofs.CheckLemmas.{repeated_here, repeated_more}
use Rattle.gt_setup.proofs.IndexLemmas.{index_push, none_from_test}
use Rattle.gt_setup.proofs.PlaceLemmas.{any_place}
use Rattle.gt_setup.proofs.places.places_of.Goals as goal

pub returns-then-contains_key-clause-fault : goal.returns-then-contains_key-clause-fault
returns-then-contains_key-clause-fault c =
    let ids = c.args.ids.now in
    let id = c.index-ids-at.result in
    let before = take c.loop-at.at ids in
    let found : list_any (λ other. bytes_eq other id) before ≡ true =
    sym (any_place (λ other. bytes_eq other id) before)
    ∙ ap (λ o. is_some o) (sym (c.loop-at.invariant.index.first id))
    ∙ sym c.contains_key.ensures
    ∙ c.if-contains_key.true in
    inr (ap (λ o. none_or o (λ x. Twice x)) (c.loop-at.invariant.apart ∙ repeated_here ids c.loop-at.at id (omega arith) c.index-ids-at.is found))

pub loop-at-preserved : goal.loop-at-preserved
loop-at-preserved c =
    let ids = c.args.ids.now in
    let at = c.loop-at.at in
    let id = c.index-ids-at.result in
    let before = take at ids in
    let within : at < length ids = omega arith in
    let absent : place_at c.loop-at.places id ≡ None =
    none_from_test (place_at c.loop-at.places id) (sym c.contains_key.ensures ∙ c.if-contains_key.false) in
    let none : list_any (λ other. bytes_eq other id) before ≡ false =
    sym (any_place (λ other. bytes_eq other id) before)
    ∙ ap (λ o. is_some o) (sym (c.loop-at.invariant.index.first id))
    ∙ sym c.contains_key.ensures
    ∙ c.if-contains_key.false in
    let count : at ≡ length before = sym (length-take-le at ids (omega arith)) in
    record {
      apart = c.loop-at.invariant.apart ∙ repeated_more ids at id within c.index-ids-at.is none;
      index =
          subst (λ xs. IsIndexOf (λ key x. bytes_eq x key) xs c.insert.new.self)
          (sym (take_more ids at id within ∙ ap (λ y. before ++ y ∷ []) (sym c.index-ids-at.is)))
          (index_push before id at c.loop-at.places c.insert.new.self c.loop-at.invariant.index absent c.in_ok-insert.ensures.updates count);
    }
