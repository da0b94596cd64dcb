use Rattle.gt_forest.proofs.MapLemmas.{puts_stage}
use Rattle.gt_forest.proofs.stages.open_stage.Goals as goal
use Rattle.gt_forest.specs.Rows.{PutsStage, stage_rows}
use Rattle.std.proofs.Common.{Some, subst}

pub returns-clause-ok : goal.returns-clause-ok
returns-clause-ok c =
    subst (λ bytes. PutsStage c.args.key (Some bytes) (stage_rows c.args.stages.now) (stage_rows c.insert.new.self)) c.new.ensures.items
    (puts_stage c.args.stages.now c.insert.new.self c.args.key (Some c.new.result) c.in_ok-insert.ensures.updates)
