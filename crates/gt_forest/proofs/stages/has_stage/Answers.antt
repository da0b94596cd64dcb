use Rattle.gt_forest.proofs.MapLemmas.{is_some-option_map, staged}
use Rattle.gt_forest.proofs.stages.has_stage.Goals as goal
use Rattle.std.proofs.Common.{ap, is_some, refl, sym, ◌∙◌}

pub returns : goal.returns
returns c = c.contains_key.ensures ∙ sym (ap is_some (staged c.args.stages.now c.args.key _ refl) ∙ is_some-option_map (λ v. v.items) _)
