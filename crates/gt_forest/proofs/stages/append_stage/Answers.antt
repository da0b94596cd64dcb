use Rattle.gt_forest.proofs.MapLemmas.{not_there, on_err, puts_stage, same_stages, staged}
use Rattle.gt_forest.proofs.stages.append_stage.Goals as goal
use Rattle.gt_forest.specs.Rows.{PutsStage, stage_rows, stored}
use Rattle.std.proofs.Common.{IfSome, IsSome, None, Some, refl, subst, sym, ◌++◌}

pub returns-in_err-add_bytes-clause-err : goal.returns-in_err-add_bytes-clause-err
returns-in_err-add_bytes-clause-err c =
    let m = c.args.stages.now in
    let new = c.add_bytes.new.stage in
    let outer = (c.get_mut.follows.holds new).3 (subst IsSome c.in-Some.ensures.value refl) in
    on_err c.from_residual.result (same_stages m (c.get_mut.follows.lender new) c.args.key c.in-Some.stage.now new c.in-Some.ensures.value outer c.in_err-add_bytes.ensures.err)

pub returns-in_ok-add_bytes-clause-ok : goal.returns-in_ok-add_bytes-clause-ok
returns-in_ok-add_bytes-clause-ok c =
    let m = c.args.stages.now in
    let new = c.add_bytes.new.stage in
    let lender = c.get_mut.follows.lender new in
    let outer = (c.get_mut.follows.holds new).3 (subst IsSome c.in-Some.ensures.value refl) in
    let puts = puts_stage m lender c.args.key (Some new) outer in
    subst (λ o. IfSome o (λ old. PutsStage c.args.key (Some (old ++ stored c.args.is_corrupt c.args.bytes.now)) (stage_rows m) (stage_rows lender)))
    (sym (staged m c.args.key (Some c.in-Some.stage.now) c.in-Some.ensures.value))
    (subst (λ bytes. PutsStage c.args.key (Some bytes) (stage_rows m) (stage_rows lender)) c.in_ok-add_bytes.ensures.ok puts)

pub returns-in_default-clause-ok : goal.returns-in_default-clause-ok
returns-in_default-clause-ok c = absurd (not_there _ (staged c.args.stages.now c.args.key None c.in_default.ensures.value) c.requires)
