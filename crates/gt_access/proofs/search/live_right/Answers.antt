use Rattle.std.proofs.Common.{ap, cond, sym, true, false, refl, ◌∙◌, ◌≡◌, Bool, ℕ}
use Rattle.gt_access.specs.Indexed.{is_rule_at}
use Rattle.gt_access.proofs.FrontLemmas.{top_run}
use Rattle.gt_access.proofs.search.live_right.Goals as goal

choice : (n : ℕ) (b e : Bool) (x y : Bool) → n ≡ cond b 2 (cond e 0 1) → b ≡ x → e ≡ y → cond x 2 (cond y 0 1) ≡ n
choice n b e x y is of_b of_e = sym (is ∙ ap (λ t. cond t 2 (cond e 0 1)) of_b ∙ ap (λ t. cond x 2 (cond t 0 1)) of_e)

pub returns-then-any_writes : goal.returns-then-any_writes
returns-then-any_writes c =
    let is = top_run (is_rule_at c.args.collection c.args.names.now c.args.principal) c.args.rows.now c.live_run-run.result.now c.live_run-run.ensures in
    choice _ _ _ true _ is (sym c.any_writes.ensures ∙ c.if-any_writes.true) refl

pub returns-then-is_empty : goal.returns-then-is_empty
returns-then-is_empty c =
    let is = top_run (is_rule_at c.args.collection c.args.names.now c.args.principal) c.args.rows.now c.live_run-run.result.now c.live_run-run.ensures in
    choice _ _ _ false true is (sym c.any_writes.ensures ∙ c.if-any_writes.false) (sym c.is_empty.ensures ∙ c.if-is_empty.true)

pub returns-else-is_empty : goal.returns-else-is_empty
returns-else-is_empty c =
    let is = top_run (is_rule_at c.args.collection c.args.names.now c.args.principal) c.args.rows.now c.live_run-run.result.now c.live_run-run.ensures in
    choice _ _ _ false false is (sym c.any_writes.ensures ∙ c.if-any_writes.false) (sym c.is_empty.ensures ∙ c.if-is_empty.false)
