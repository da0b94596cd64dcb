use Rattle.std.proofs.Common.{◌≡◌, ◌∙◌, ap, sym, rules, true}
use Rattle.std.proofs.lemmas.Iterator.{YieldsList-from_slice}
use Rattle.std.proofs.lemmas.Iterator.Search.{position_from_yields_List}
use Rattle.std.specs.Option.{option_map_or}
use Rattle.std.specs.Prelude.{option_and_then, slice_get}
use Rattle.gt_select.proofs.FilterLemmas.{find-position}
use Rattle.gt_select.specs.Filter.{first_rule_of, is_about}
use Rattle.gt_select.proofs.filter.first_rule.Goals as goal

pub returns-clause-chosen : goal.returns-clause-chosen
returns-clause-chosen c =
    let first : c.position.result ≡ first_rule_of c.args.rules.now c.args.name.now c.args.kind =
    position_from_yields_List (is_about c.args.name.now c.args.kind) _ _ c.position.result c.position.ensures.ran
    (YieldsList-from_slice c.args.rules.now c.iter.ensures.rest) (λ x b q k. search rules) in
    ap (λ rule. option_map_or (λ rule. rule.include) rule true) (find-position (is_about c.args.name.now c.args.kind) c.args.rules.now)
    ∙ ap (λ place. option_map_or (λ rule. rule.include) (option_and_then (slice_get c.args.rules.now) place) true) (sym first)
