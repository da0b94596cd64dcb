use Rattle.std.proofs.Common.{ap, arith, cond, filter, max, sym, ◌∙◌, ◌≡◌, ◌≤◌, length}
use Rattle.std.proofs.lemmas.Bool.{cond-false, cond-true}
use Rattle.std.proofs.lemmas.List.{take_all}
use Rattle.gt_access.specs.Best.{score, score_of}
use Rattle.gt_access.specs.Right.{applies}
use Rattle.gt_access.proofs.BestLemmas.{best_of, best_of_more, right_from_score}
use Rattle.gt_access.proofs.look_up.right_on.Goals as goal
use Rattle.gt_access.proofs.look_up.right_on.Goals.{else-applies, then-applies}

pub loop-row-preserved : goal.loop-row-preserved
loop-row-preserved c =
    let p = applies c.args.seq c.args.who.now c.args.collection c.args.path.now in
    let rows = c.args.rows.now in
    let row = c.row-item.result in
    let best_now : score c.if-applies.best ≡ max (score c.loop-row.best) (cond (p row) (score_of row) 0) =
    elim c.if-applies.branch [
      | then-applies w ↦
          ap score w.best-is ∙ w.with-best.ensures
          ∙ ap (max (score c.loop-row.best)) (sym (cond-true (p row) (score_of row) 0 (sym c.applies.ensures ∙ w.if-applies.true)))
      | else-applies w ↦
          let same : score c.loop-row.best ≡ max (score c.loop-row.best) 0 = omega arith in
          ap score w.best-is ∙ same
          ∙ ap (max (score c.loop-row.best)) (sym (cond-false (p row) (score_of row) 0 (sym c.applies.ensures ∙ w.if-applies.false)))
    ] in
    best_now
    ∙ ap (λ n. max n (cond (p row) (score_of row) 0)) c.loop-row.invariant
    ∙ sym (best_of_more p rows c.loop-row.row-index row (omega arith) c.row-item.is)

pub returns : goal.returns
returns c =
    let rows = c.args.rows.now in
    let p = applies c.args.seq c.args.who.now c.args.collection c.args.path.now in
    let all : length rows ≤ c.loop-row.row-index = c.loop-row-test.false in
    c.right.ensures ∙ right_from_score c.loop-row.best (filter p rows) (c.loop-row.invariant ∙ ap (λ xs. best_of (filter p xs)) (take_all c.loop-row.row-index rows all))
