use Rattle.std.proofs.Common.{List, ap, arith, false, filter, length, rules, take, ℕ, ◌+◌, ◌-◌, ◌∙◌, ◌≡◌, ◌≢◌}
use Rattle.gt_access.specs.Best.{rank, top}
use Rattle.gt_access.specs.Indexed.{is_rule_of}
use Rattle.gt_access.specs.Right.{applies}
use Rattle.gt_access.specs.declared.row.AccessRow.{AccessRow}
use Rattle.gt_access.specs.declared.row.Right.{Right}
use Rattle.gt_access.specs.declared.row.Right.TheVariants.{Nothing}
use Rattle.gt_paths.specs.Path.{PathValue}
use Rattle.gt_types.specs.declared.rule.Who.{Who}
use Rattle.gt_access.proofs.BestLemmas.{best_of}
use Rattle.gt_access.proofs.FrontLemmas.{all_fronts, front_answers, front_left, no_front_left, shorter}
use Rattle.gt_access.proofs.search.right_now.Goals as goal

-- the rank of the front, by the path itself
of_path : (collection d : ℕ) (who : Who) (rows : List AccessRow) (names path : PathValue) (right : Right) → names ≡ path
    → rank right ≡ top (is_rule_of collection (take d names) who) rows → rank right ≡ top (is_rule_of collection (take d path) who) rows
of_path collection d who rows names path right same is = is ∙ ap (λ ns. top (is_rule_of collection (take d ns) who) rows) same

pub loop-depth-init : goal.loop-depth-init
loop-depth-init c =
    let p = applies c.args.seq c.args.who.now c.args.collection c.args.path.now in
    let value = c.as_slice-names.ensures.value in
    record {
      within = omega (arith, ap length value);
      left = ap (λ n. best_of (filter (shorter p (length n + 1)) c.args.rows.now)) value
          ∙ all_fronts c.args.seq c.args.who.now c.args.collection c.args.path.now c.args.rows.now;
    }

pub returns-then-ne : goal.returns-then-ne
returns-then-ne c =
    let one : c.loop-depth.depth - 1 + 1 ≡ c.loop-depth.depth = omega (arith, c.loop-depth-test.true) in
    let some : c.front_right-right.result ≢ Nothing =
    λ e. let none : c.ne.result ≡ false = rw e at c.ne.ensures in let is = c.if-ne.true in cc in
    front_answers c.args.seq c.requires.coming.0 c.args.who.now c.args.collection c.args.path.now c.args.rows.now c.loop-depth.depth
    (c.loop-depth.depth - 1) one c.loop-depth.invariant.within c.requires.coming.2 c.requires.coming.1 c.front_right-right.result (of_path c.args.collection (c.loop-depth.depth - 1) c.args.who.now c.args.rows.now c.as_slice-names.result.now c.args.path.now
    c.front_right-right.result c.as_slice-names.ensures.value c.front_right-right.ensures)
    c.loop-depth.invariant.left some

pub loop-depth-preserved : goal.loop-depth-preserved
loop-depth-preserved c =
    let one : c.loop-depth.depth - 1 + 1 ≡ c.loop-depth.depth = omega (arith, c.loop-depth-test.true) in
    let nothing : c.front_right-right.result ≡ Nothing = search rules in
    record {
      within = omega (arith, c.loop-depth.invariant.within);
      left =
          front_left c.args.seq c.requires.coming.0 c.args.who.now c.args.collection c.args.path.now c.args.rows.now c.loop-depth.depth
          (c.loop-depth.depth - 1) one c.loop-depth.invariant.within c.requires.coming.2 c.requires.coming.1 c.front_right-right.result (of_path c.args.collection (c.loop-depth.depth - 1) c.args.who.now c.args.rows.now c.as_slice-names.result.now c.args.path.now
          c.front_right-right.result c.as_slice-names.ensures.value c.front_right-right.ensures)
          c.loop-depth.invariant.left nothing;
    }

pub returns : goal.returns
returns c =
    no_front_left (applies c.args.seq c.args.who.now c.args.collection c.args.path.now) c.args.rows.now c.loop-depth.depth c.loop-depth-test.false
    c.loop-depth.invariant.left
