-- The greatest number of some rows is that of the right which they give.
use Rattle.std.proofs.Common.{Bool, List, [], ap, arith, cond, false, filter, get_or, inl, inr, length, map, max, refl, sym, take, true, ℕ, ◌*◌, ◌+◌, ◌++◌, ◌<◌, ◌∙◌, ◌∷◌, ◌≡◌, ◌≤◌}
use Rattle.std.specs.List.{fold}
use Rattle.std.proofs.lemmas.Bool.{cases_order, eq-eqb, ne_eqb}
use Rattle.std.proofs.lemmas.List.Elements.{filter_more}
use Rattle.gt_access.specs.Best.{rank, score, score_of}
use Rattle.gt_access.specs.Right.{deepest, greatest_right, longest, of_length}
use Rattle.gt_access.specs.declared.right.Best.{Best}
use Rattle.gt_access.specs.declared.row.AccessRow.{AccessRow}
use Rattle.gt_access.specs.declared.row.Right.{Right}
use Rattle.gt_access.specs.declared.row.Right.TheVariants.{Nothing, Read, Write}

-- the greatest number of the rows
abbrev pub best_of : List AccessRow → ℕ
best_of [] = 0
best_of (row ∷ rows) = max (score_of row) (best_of rows)

pub best_of-append : (xs ys : List AccessRow) → best_of (xs ++ ys) ≡ max (best_of xs) (best_of ys)
best_of-append [] ys = omega arith
best_of-append (x ∷ xs) ys = omega (arith, best_of-append xs ys)

-- the greatest from a start
fold_max-start : (a b : ℕ) (xs : List ℕ) → fold max (max a b) xs ≡ max a (fold max b xs)
fold_max-start a b [] = refl
fold_max-start a b (x ∷ xs) =
    let e : max (max a b) x ≡ max a (max b x) = omega arith in
    rw e (fold_max-start a (max b x) xs)

longest-cons : (row : AccessRow) (rows : List AccessRow) → longest (row ∷ rows) ≡ max (length row.spec.path) (longest rows)
longest-cons row rows =
    let e : max 0 (length row.spec.path) ≡ max (length row.spec.path) 0 = omega arith in
    ap (λ a. fold max a (map (λ r. length r.spec.path) rows)) e
    ∙ fold_max-start (length row.spec.path) 0 (map (λ r. length r.spec.path) rows)

-- no row is longer than the longest
of_length-above : (d : ℕ) (rows : List AccessRow) → longest rows < d → of_length d rows ≡ []
of_length-above d [] h = refl
of_length-above d (row ∷ rows) h =
    let bound : max (length row.spec.path) (longest rows) < d = rw (longest-cons row rows) at h in
    let differs : length row.spec.path ≡ d → ⊥ = λ e. omega arith in
    let shorter : longest rows < d = omega arith in
    rw (ne_eqb (length row.spec.path) d differs) (of_length-above d rows shorter)

of_length-same : (d : ℕ) (row : AccessRow) (rows : List AccessRow) → length row.spec.path ≡ d → of_length d (row ∷ rows) ≡ row ∷ of_length d rows
of_length-same d row rows e = rw (eq-eqb (length row.spec.path) d e) refl

of_length-other : (d : ℕ) (row : AccessRow) (rows : List AccessRow) → (length row.spec.path ≡ d → ⊥) → of_length d (row ∷ rows) ≡ of_length d rows
of_length-other d row rows e = rw (ne_eqb (length row.spec.path) d e) refl

rank-le : (right : Right) → rank right ≤ 2
rank-le Nothing = omega arith
rank-le Read = omega arith
rank-le Write = omega arith

pub rank-same : (a b : Right) → rank a ≡ rank b → a ≡ b
rank-same Nothing Nothing e = refl
rank-same Nothing Read e = cc
rank-same Nothing Write e = cc
rank-same Read Nothing e = cc
rank-same Read Read e = refl
rank-same Read Write e = cc
rank-same Write Nothing e = cc
rank-same Write Read e = cc
rank-same Write Write e = refl

permission-bounds : (write : Bool) → (1 ≤ cond write 2 1) × (cond write 2 1 ≤ 2)
permission-bounds true = (omega arith, omega arith)
permission-bounds false = (omega arith, omega arith)

rank-cons : (row : AccessRow) (rows : List AccessRow)
    → rank (greatest_right (row ∷ rows)) ≡ max (cond row.spec.write 2 1) (rank (greatest_right rows))
rank-cons row rows = grind (arith, rank-le)

-- the number of one row more, where the longest path and its rows are known
step : (row : AccessRow) (rows : List AccessRow) (depth : ℕ) (deep : List AccessRow) → longest (row ∷ rows) ≡ depth
    → of_length depth (row ∷ rows) ≡ deep → best_of rows ≡ 3 * longest rows + rank (greatest_right (deepest rows))
    → max (score_of row) (3 * longest rows + rank (greatest_right (deepest rows))) ≡ 3 * depth + rank (greatest_right deep)
    → best_of (row ∷ rows) ≡ 3 * longest (row ∷ rows) + rank (greatest_right (deepest (row ∷ rows)))
step row rows depth deep is_depth is_deep rest sum =
    ap (λ n. max (score_of row) n) rest
    ∙ sum
    ∙ ap (λ xs. 3 * depth + rank (greatest_right xs)) (sym is_deep)
    ∙ ap (λ n. 3 * n + rank (greatest_right (of_length n (row ∷ rows)))) (sym is_depth)

-- the greatest number has the longest path and the right
pub best_of-right : (rows : List AccessRow) → best_of rows ≡ 3 * longest rows + rank (greatest_right (deepest rows))
best_of-right [] = refl
best_of-right (row ∷ rows) =
    let own = permission-bounds row.spec.write in
    let others = rank-le (greatest_right (deepest rows)) in
    elim (cases_order (length row.spec.path) (longest rows)) [
      | inl same ↦
          step row rows (longest rows) (row ∷ deepest rows) (longest-cons row rows ∙ omega arith)
          (of_length-same (longest rows) row rows same) (best_of-right rows) (omega (arith, rank-cons row (deepest rows)))
      | inr differ ↦
          elim differ [
            | inl shorter ↦
                step row rows (longest rows) (deepest rows) (longest-cons row rows ∙ omega arith)
                (of_length-other (longest rows) row rows (λ e. omega arith)) (best_of-right rows) (omega arith)
            | inr longer ↦
                step row rows (length row.spec.path) (row ∷ []) (longest-cons row rows ∙ omega arith)
                (of_length-same (length row.spec.path) row rows refl ∙ ap (λ xs. row ∷ xs) (of_length-above (length row.spec.path) rows longer))
                (best_of-right rows) (omega (arith, rank-cons row []))
          ]
    ]

pub right_of_best : (d : ℕ) (right : Right) (rows : List AccessRow) → best_of rows ≡ 3 * d + rank right → right ≡ greatest_right (deepest rows)
right_of_best d right rows e =
    rank-same _ _ (omega (arith, e, best_of-right rows, rank-le right, rank-le (greatest_right (deepest rows))))

pub right_from_score : (best : Best) (rows : List AccessRow) → score best ≡ best_of rows → best.right ≡ greatest_right (deepest rows)
right_from_score best rows e = right_of_best best.depth best.right rows (sym e)

best_of-one : (b : Bool) (row : AccessRow) → best_of (cond b (row ∷ []) []) ≡ cond b (score_of row) 0
best_of-one true row = omega arith
best_of-one false row = refl

-- one row more
pub best_of_more : (p : AccessRow → Bool) (rows : List AccessRow) (i : ℕ) (row : AccessRow) → i < length rows → row ≡ get_or rows i row
    → best_of (filter p (take (i + 1) rows)) ≡ max (best_of (filter p (take i rows))) (cond (p row) (score_of row) 0)
best_of_more p rows i row within is =
    ap best_of (filter_more p rows i row within)
    ∙ best_of-append (filter p (take i rows)) (cond (p (get_or rows i row)) (get_or rows i row ∷ []) [])
    ∙ ap (max (best_of (filter p (take i rows)))) (best_of-one (p (get_or rows i row)) (get_or rows i row))
    ∙ ap (λ r. max (best_of (filter p (take i rows))) (cond (p r) (score_of r) 0)) (sym is)
