use Rattle.gt_forest.specs.Calls.{StageAppendAnswer}
use Rattle.gt_forest_suite.proofs.change.make_change.Goals as goal
use Rattle.gt_forest_suite.specs.Suite.{Changed}
use Rattle.std.proofs.Common.{subst, sym}

pub returns-in-Open-clause-told : goal.returns-in-Open-clause-told
returns-in-Open-clause-told g c told =
    let words = g.F.Forest.words in
    subst (λ made. Changed c.args.collection made c.stage_open.result (words.trees c.args.forest.now) (words.trees c.stage_open.new.self)) (sym c.in-Open.is) (c.stage_open.ensures.told told)

pub returns-in-Append-clause-told : goal.returns-in-Append-clause-told
returns-in-Append-clause-told g c told =
    let words = g.F.Forest.words in
    subst (λ made. Changed c.args.collection made c.stage_append.result (words.trees c.args.forest.now) (words.trees c.stage_append.new.self)) (sym c.in-Append.is) (subst (λ bytes. StageAppendAnswer c.args.collection c.in-Append.key bytes c.stage_append.result (words.trees c.args.forest.now) (words.trees c.stage_append.new.self)) c.as_slice.ensures.value (c.stage_append.ensures.told told))

pub returns-in-Place-clause-told : goal.returns-in-Place-clause-told
returns-in-Place-clause-told g c told =
    let words = g.F.Forest.words in
    subst (λ made. Changed c.args.collection made c.stage_place.result (words.trees c.args.forest.now) (words.trees c.stage_place.new.self)) (sym c.in-Place.is) (c.stage_place.ensures.told told)

pub returns-in-Discard-clause-told : goal.returns-in-Discard-clause-told
returns-in-Discard-clause-told g c told =
    let words = g.F.Forest.words in
    subst (λ made. Changed c.args.collection made c.stage_drop.result (words.trees c.args.forest.now) (words.trees c.stage_drop.new.self)) (sym c.in-Discard.is) (c.stage_drop.ensures.told told)

pub returns-in-Make-clause-told : goal.returns-in-Make-clause-told
returns-in-Make-clause-told g c told =
    let words = g.F.Forest.words in
    subst (λ made. Changed c.args.collection made c.make_dir.result (words.trees c.args.forest.now) (words.trees c.make_dir.new.self)) (sym c.in-Make.is) (c.make_dir.ensures.told told)

pub returns-in-RemoveFile-clause-told : goal.returns-in-RemoveFile-clause-told
returns-in-RemoveFile-clause-told g c told =
    let words = g.F.Forest.words in
    subst (λ made. Changed c.args.collection made c.remove_file.result (words.trees c.args.forest.now) (words.trees c.remove_file.new.self)) (sym c.in-RemoveFile.is) (c.remove_file.ensures.told told)

pub returns-in-RemoveDir-clause-told : goal.returns-in-RemoveDir-clause-told
returns-in-RemoveDir-clause-told g c told =
    let words = g.F.Forest.words in
    subst (λ made. Changed c.args.collection made c.remove_dir.result (words.trees c.args.forest.now) (words.trees c.remove_dir.new.self)) (sym c.in-RemoveDir.is) (c.remove_dir.ensures.told told)
