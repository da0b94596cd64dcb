-- The rows of each front of a path decide as all rows do that apply.
use Rattle.std.proofs.Common.{Bool, List, None, Option, Some, [], append_assoc, ap, arith, cond, false, filter, get_or, inl, inr, is_none, length, max, nat_eq, nat_lt, not, refl, slice_get, suc, sym, take, true, zero, ℕ, ◌&&◌, ◌*◌, ◌+◌, ◌++◌, ◌<◌, ◌∙◌, ◌∷◌, ◌≡◌, ◌≢◌, ◌≤◌, ◌||◌}
use Rattle.std.proofs.lemmas.Bool.{and_parts, cases_eq, cases_order, eq-eqb, eqb-true, le-ltb, lt-ltb, ltb-true, ne_eqb}
use Rattle.std.proofs.lemmas.List.{take_all}
use Rattle.std.proofs.lemmas.List.Elements.{filter_agree}
use Rattle.std.proofs.lemmas.List.Folds.{list_any_more}
use Rattle.std.specs.Cmp.Lexicographic.{lists_ties, nat_list_eq_equiv, slice_cmp, texts_ties}
use Rattle.std.specs.Cmp.{unsigned_ties}
use Rattle.std.specs.List.{list_any}
use Rattle.std.specs.Ordering.{is_eq, nat_cmp, ordering_then}
use Rattle.std.specs.Prelude.{IfSome}
use Rattle.std.specs.Str.{bytes_eq}
use Rattle.std.specs.declared.cmp.Ordering.{Ordering}
use Rattle.std.specs.declared.cmp.Ordering.TheVariants.{Equal, Greater, Less}
use Rattle.gt_access.specs.Best.{permission_of, rank, score_of, top}
use Rattle.gt_access.specs.Filed.{NoneAfter}
use Rattle.gt_access.specs.Indexed.{is_rule_at, is_rule_of}
use Rattle.gt_access.specs.Right.{applies, deepest, greatest_right, is_named}
use Rattle.gt_access.specs.Rule.{is_live_access, same_principal}
use Rattle.gt_access.specs.declared.row.AccessRow.{AccessRow}
use Rattle.gt_access.specs.declared.row.Right.{Right}
use Rattle.gt_access.specs.declared.row.Right.TheVariants.{Nothing}
use Rattle.gt_paths.specs.Path.{PathValue, is_under, path_cmp, same_path}
use Rattle.gt_types.specs.declared.rule.Principal.{Principal}
use Rattle.gt_types.specs.declared.rule.Principal.TheVariants.{AllAuthenticated, Anonymous, Group, Identity}
use Rattle.gt_types.specs.declared.rule.Who.{Who}
use Rattle.gt_values.specs.Life.{is_alive}
use Rattle.gt_access.proofs.BestLemmas.{best_of, rank-same, right_of_best}
use Rattle.gt_index.specs.Index.{passes_at, places_from, places_where}

pub eq_then : (r s : Ordering) → is_eq (ordering_then r s) ≡ (is_eq r && is_eq s)
eq_then Less s = refl
eq_then Equal s = refl
eq_then Greater s = refl

and_true : (b : Bool) → (b && true) ≡ b
and_true true = refl
and_true false = refl

regroup : (l c p s : Bool) → (l && ((c && s) && p)) ≡ (((l && c) && p) && s)
regroup true true true true = refl
regroup true true true false = refl
regroup true true false true = refl
regroup true true false false = refl
regroup true false p s = refl
regroup false c p s = refl

-- a row with the key, where its order of principals ties just the same
pub key_is : (order : Principal → Principal → Ordering) → ((x y : Principal) → is_eq (order x y) ≡ same_principal x y)
    → (collection : ℕ) (names : PathValue) (principal : Principal) (row : AccessRow)
    → (is_live_access row && is_eq (ordering_then (ordering_then (nat_cmp row.collection collection) (path_cmp row.spec.path names)) (order row.spec.principal principal)))
    ≡ is_rule_at collection names principal row
key_is order ties collection names principal row =
    let l = is_live_access row in
    let first = nat_cmp row.collection collection in
    let second = path_cmp row.spec.path names in
    let third = order row.spec.principal principal in
    ap (λ b. l && b)
    (eq_then (ordering_then first second) third
    ∙ ap (λ b. b && is_eq third)
    (eq_then first second
    ∙ ap (λ b. b && is_eq second) (sym (unsigned_ties row.collection collection))
    ∙ ap (λ b. nat_eq row.collection collection && b) (sym (lists_ties (slice_cmp nat_cmp) texts_ties row.spec.path names)))
    ∙ ap (λ b. (nat_eq row.collection collection && same_path row.spec.path names) && b) (ties row.spec.principal principal))
    ∙ regroup l (nat_eq row.collection collection) (same_principal row.spec.principal principal) (same_path row.spec.path names)

-- places of rows that pass two tests alike
pub places_agree : (n : ℕ) (p q : AccessRow → Bool) (rows : List AccessRow) → ((row : AccessRow) → p row ≡ q row) → places_from n p rows ≡ places_from n q rows
places_agree n p q [] same = refl
places_agree n p q (row ∷ rows) same = rw (same row, places_agree (n + 1) p q rows same) refl

-- whether there is a row, by the places
pub any_place : (n : ℕ) (p : AccessRow → Bool) (rows : List AccessRow) → list_any p rows ≡ not (nat_eq (length (places_from n p rows)) 0)
any_place n p [] = refl
any_place n p (row ∷ rows) = of_test (p row) (any_place (n + 1) p rows)
  where
    of_test : (b : Bool) → list_any p rows ≡ not (nat_eq (length (places_from (n + 1) p rows)) 0)
        → (b || list_any p rows) ≡ not (nat_eq (length (cond b (n ∷ places_from (n + 1) p rows) (places_from (n + 1) p rows))) 0)
    of_test true rest = sym (ap not (ne_eqb (suc (length (places_from (n + 1) p rows))) 0 (λ e. omega arith)))
    of_test false rest = rest

at_length : (before rows : List AccessRow) (row : AccessRow) → slice_get (before ++ row ∷ rows) (length before) ≡ Some row
at_length [] rows row = refl
at_length (x ∷ before) rows row = at_length before rows row

-- whether a row that passes has more, by the places
any_at : (w p : AccessRow → Bool) (before rows : List AccessRow) (n : ℕ) → n ≡ length before
    → list_any (passes_at w (before ++ rows)) (places_from n p rows) ≡ list_any (λ row. p row && w row) rows
any_at w p before [] n is = refl
any_at w p before (row ∷ rows) n is =
    let next : n + 1 ≡ length (before ++ row ∷ []) = omega (arith, length_more before row) in
    let rest : list_any (passes_at w (before ++ row ∷ rows)) (places_from (n + 1) p rows) ≡ list_any (λ r. p r && w r) rows =
    rw append_assoc at (any_at w p (before ++ row ∷ []) rows (n + 1) next) in
    let own : passes_at w (before ++ row ∷ rows) n ≡ w row = rw (is, at_length before rows row) refl in
    of_test (p row) own rest
  where
    length_more : (xs : List AccessRow) (x : AccessRow) → length (xs ++ x ∷ []) ≡ length xs + 1
    length_more [] x = omega arith
    length_more (y ∷ xs) x = omega (arith, length_more xs x)

    of_test : (b : Bool) → passes_at w (before ++ row ∷ rows) n ≡ w row
        → list_any (passes_at w (before ++ row ∷ rows)) (places_from (n + 1) p rows) ≡ list_any (λ r. p r && w r) rows
        → list_any (passes_at w (before ++ row ∷ rows)) (cond b (n ∷ places_from (n + 1) p rows) (places_from (n + 1) p rows)) ≡ ((b && w row) || list_any (λ r. p r && w r) rows)
    of_test true own rest = rw (own, rest) refl
    of_test false own rest = rest

pub any_writes : (w p : AccessRow → Bool) (rows : List AccessRow) → list_any (passes_at w rows) (places_where p rows) ≡ list_any (λ row. p row && w row) rows
any_writes w p rows = any_at w p [] rows 0 refl

-- the greatest rank, by what there is
pub top_is : (p : AccessRow → Bool) (rows : List AccessRow)
    → top p rows ≡ cond (list_any (λ row. p row && row.spec.write) rows) 2 (cond (list_any p rows) 1 0)
top_is p [] = refl
top_is p (row ∷ rows) = of_tests (p row) row.spec.write (list_any (λ r. p r && r.spec.write) rows) (list_any p rows) (top p rows) (top_is p rows)
  where
    of_tests : (b w ws bs : Bool) (n : ℕ) → n ≡ cond ws 2 (cond bs 1 0) → max (cond b (cond w 2 1) 0) n ≡ cond ((b && w) || ws) 2 (cond (b || bs) 1 0)
    of_tests true true ws bs n e = top_two ws bs n e
      where
        top_two : (s t : Bool) (m : ℕ) → m ≡ cond s 2 (cond t 1 0) → max 2 m ≡ 2
        top_two true t m e = omega arith
        top_two false true m e = omega arith
        top_two false false m e = omega arith
    of_tests true false true bs n e = omega arith
    of_tests true false false true n e = omega arith
    of_tests true false false false n e = omega arith
    of_tests false w true bs n e = omega arith
    of_tests false w false true n e = omega arith
    of_tests false w false false n e = omega arith

-- the greatest rank, by the places
pub top_run : (p : AccessRow → Bool) (rows : List AccessRow) (run : List ℕ) → run ≡ places_where p rows
    → top p rows ≡ cond (list_any (passes_at (λ row. row.spec.write) rows) run) 2 (cond (nat_eq (length run) 0) 0 1)
top_run p rows run is =
    top_is p rows
    ∙ ap (λ b. cond b 2 (cond (list_any p rows) 1 0))
    (sym (any_writes (λ row. row.spec.write) p rows) ∙ ap (list_any (passes_at (λ row. row.spec.write) rows)) (sym is))
    ∙ ap (λ b. cond (list_any (passes_at (λ row. row.spec.write) rows) run) 2 (cond b 1 0))
    (any_place 0 p rows ∙ ap (λ xs. not (nat_eq (length xs) 0)) (sym is))
    ∙ ap (cond (list_any (passes_at (λ row. row.spec.write) rows) run) 2) (turned (nat_eq (length run) 0) 1 0)
  where
    turned : (b : Bool) (m n : ℕ) → cond (not b) m n ≡ cond b n m
    turned true m n = refl
    turned false m n = refl

pub top_agree : (p q : AccessRow → Bool) (rows : List AccessRow) → ((row : AccessRow) → p row ≡ q row) → top p rows ≡ top q rows
top_agree p q [] same = refl
top_agree p q (row ∷ rows) same = rw (same row, top_agree p q rows same) refl

pub top_or : (p q : AccessRow → Bool) (rows : List AccessRow) → top (λ row. p row || q row) rows ≡ max (top p rows) (top q rows)
top_or p q [] = refl
top_or p q (row ∷ rows) = of_tests (p row) (q row) (permission_of row) (top p rows) (top q rows) (top (λ r. p r || q r) rows) (top_or p q rows)
  where
    of_tests : (b c : Bool) (w m n t : ℕ) → t ≡ max m n → max (cond (b || c) w 0) t ≡ max (max (cond b w 0) m) (max (cond c w 0) n)
    of_tests true true w m n t e = omega arith
    of_tests true false w m n t e = omega arith
    of_tests false true w m n t e = omega arith
    of_tests false false w m n t e = omega arith

pub top_none : (p : AccessRow → Bool) (rows : List AccessRow) → ((row : AccessRow) → p row ≡ false) → top p rows ≡ 0
top_none p [] none = refl
top_none p (row ∷ rows) none = rw (none row, top_none p rows none) refl

-- the principals that name a caller
any_false : (gs : List (List ℕ)) → list_any (λ g. false) gs ≡ false
any_false [] = refl
any_false (g ∷ gs) = any_false gs

or_false : (b : Bool) → (b || false) ≡ b
or_false true = refl
or_false false = refl

any_turned : (id : List ℕ) (gs : List (List ℕ)) → list_any (λ g. bytes_eq g id) gs ≡ list_any (λ g. bytes_eq id g) gs
any_turned id [] = refl
any_turned id (g ∷ gs) = rw (nat_list_eq_equiv.symm g id, any_turned id gs) refl

named_is : (principal : Principal) (who : Who)
    → is_named principal who
    ≡ ((same_principal principal (Identity who.identity) || (same_principal principal AllAuthenticated || same_principal principal Anonymous))
    || list_any (λ g. same_principal principal (Group g)) who.groups)
named_is (Identity id) who = sym (rw (any_false who.groups, or_false (bytes_eq id who.identity)) (or_false (bytes_eq id who.identity)))
named_is (Group id) who = any_turned id who.groups
named_is AllAuthenticated who = refl
named_is Anonymous who = refl

or_inside : (l s x y : Bool) → ((l && (x || y)) && s) ≡ (((l && x) && s) || ((l && y) && s))
or_inside true true true y = refl
or_inside true true false y = refl
or_inside true false true true = refl
or_inside true false true false = refl
or_inside true false false y = sym (or_false_left y)
  where
    or_false_left : (z : Bool) → (false || ((true && z) && false)) ≡ ((true && z) && false)
    or_false_left z = refl
or_inside false s x y = refl

any_inside : (l s : Bool) (h : List ℕ → Bool) (gs : List (List ℕ)) → ((l && list_any h gs) && s) ≡ list_any (λ g. (l && h g) && s) gs
any_inside true s h [] = refl
any_inside false s h [] = refl
any_inside l s h (g ∷ gs) = or_inside l s (h g) (list_any h gs) ∙ ap (λ b. ((l && h g) && s) || b) (any_inside l s h gs)

-- the rows for the caller are those for one of its principals
pub rule_of_is : (collection : ℕ) (names : PathValue) (who : Who) (row : AccessRow)
    → is_rule_of collection names who row
    ≡ ((is_rule_at collection names (Identity who.identity) row
    || (is_rule_at collection names AllAuthenticated row || is_rule_at collection names Anonymous row))
    || list_any (λ g. is_rule_at collection names (Group g) row) who.groups)
rule_of_is collection names who row =
    let l = is_live_access row && nat_eq row.collection collection in
    let s = same_path row.spec.path names in
    let same = same_principal row.spec.principal in
    ap (λ b. (l && b) && s) (named_is row.spec.principal who)
    ∙ or_inside l s (same (Identity who.identity) || (same AllAuthenticated || same Anonymous)) (list_any (λ g. same (Group g)) who.groups)
    ∙ ap (λ b. b || ((l && list_any (λ g. same (Group g)) who.groups) && s))
    (or_inside l s (same (Identity who.identity)) (same AllAuthenticated || same Anonymous)
    ∙ ap (λ b. ((l && same (Identity who.identity)) && s) || b) (or_inside l s (same AllAuthenticated) (same Anonymous)))
    ∙ ap
    (λ b.
    (((l && same (Identity who.identity)) && s) || (((l && same AllAuthenticated) && s) || ((l && same Anonymous) && s))) || b)
    (any_inside l s (λ g. same (Group g)) who.groups)

-- the greatest rank of those of some groups
unfoldable pub group_top : ℕ → PathValue → List AccessRow → List (List ℕ) → ℕ
group_top collection names rows groups = top (λ row. list_any (λ g. is_rule_at collection names (Group g) row) groups) rows

pub group_top-none : (collection : ℕ) (names : PathValue) (rows : List AccessRow) → group_top collection names rows [] ≡ 0
unfolding group_top
group_top-none collection names rows = top_none (λ row. false) rows (λ row. refl)

pub group_top-more : (collection : ℕ) (names : PathValue) (rows : List AccessRow) (groups : List (List ℕ)) (i : ℕ) (g : List ℕ) → i < length groups → g ≡ get_or groups i g
    → group_top collection names rows (take (i + 1) groups) ≡ max (group_top collection names rows (take i groups)) (top (is_rule_at collection names (Group g)) rows)
unfolding group_top
group_top-more collection names rows groups i g within is =
    top_agree (λ row. list_any (λ g. is_rule_at collection names (Group g) row) (take (i + 1) groups))
    (λ row. list_any (λ g. is_rule_at collection names (Group g) row) (take i groups) || is_rule_at collection names (Group g) row) rows
    (λ row.
    list_any_more (λ g. is_rule_at collection names (Group g) row) groups i g within
    ∙ ap (λ q. list_any (λ g. is_rule_at collection names (Group g) row) (take i groups) || is_rule_at collection names (Group q) row) (sym is))
    ∙ top_or (λ row. list_any (λ g. is_rule_at collection names (Group g) row) (take i groups)) (is_rule_at collection names (Group g)) rows

pub front_top : (collection : ℕ) (names : PathValue) (who : Who) (rows : List AccessRow)
    → top (is_rule_of collection names who) rows
    ≡ max (max (top (is_rule_at collection names (Identity who.identity)) rows) (max (top (is_rule_at collection names AllAuthenticated) rows) (top (is_rule_at collection names Anonymous) rows)))
    (group_top collection names rows who.groups)
unfolding group_top
front_top collection names who rows =
    let own = is_rule_at collection names (Identity who.identity) in
    let all = is_rule_at collection names AllAuthenticated in
    let any = is_rule_at collection names Anonymous in
    let groups = λ (row : AccessRow). list_any (λ g. is_rule_at collection names (Group g) row) who.groups in
    top_agree (is_rule_of collection names who) (λ row. (own row || (all row || any row)) || groups row) rows (rule_of_is collection names who)
    ∙ top_or (λ row. own row || (all row || any row)) groups rows
    ∙ ap (λ n. max n (top groups rows)) (top_or own (λ row. all row || any row) rows ∙ ap (max (top own rows)) (top_or all any rows))

-- the greatest rank after no group, after one more, and after all
pub group_init : (collection : ℕ) (names : PathValue) (rows : List AccessRow) (best rest own all any o a y : ℕ) → best ≡ max own rest → rest ≡ max all any
    → own ≡ o → all ≡ a → any ≡ y → best ≡ max (max o (max a y)) (group_top collection names rows [])
group_init collection names rows best rest own all any o a y is rest_is own_is all_is any_is =
    omega (arith, is, rest_is, own_is, all_is, any_is, group_top-none collection names rows)

pub group_step : (collection : ℕ) (names : PathValue) (rows : List AccessRow) (groups : List (List ℕ)) (i : ℕ) (g : List ℕ) (m before own now : ℕ) → i < length groups
    → g ≡ get_or groups i g → before ≡ max m (group_top collection names rows (take i groups)) → own ≡ top (is_rule_at collection names (Group g)) rows
    → now ≡ max before own → now ≡ max m (group_top collection names rows (take (i + 1) groups))
group_step collection names rows groups i g m before own now within is before_is own_is now_is =
    omega (arith, before_is, own_is, now_is, group_top-more collection names rows groups i g within is)

pub group_end : (collection : ℕ) (names : PathValue) (who : Who) (rows : List AccessRow) (groups : List (List ℕ)) (i best : ℕ) → length groups ≤ i → groups ≡ who.groups
    → best
    ≡ max (max (top (is_rule_at collection names (Identity who.identity)) rows) (max (top (is_rule_at collection names AllAuthenticated) rows) (top (is_rule_at collection names Anonymous) rows)))
    (group_top collection names rows (take i groups))
    → best ≡ top (is_rule_of collection names who) rows
group_end collection names who rows groups i best all same is =
    is
    ∙ ap
    (λ gs.
    max (max (top (is_rule_at collection names (Identity who.identity)) rows) (max (top (is_rule_at collection names AllAuthenticated) rows) (top (is_rule_at collection names Anonymous) rows)))
    (group_top collection names rows gs))
    (take_all i groups all ∙ same)
    ∙ sym (front_top collection names who rows)

-- rows by the length of their paths
and_assoc : (a b c : Bool) → ((a && b) && c) ≡ (a && (b && c))
and_assoc true b c = refl
and_assoc false b c = refl

and_false : (b : Bool) → (b && false) ≡ false
and_false true = refl
and_false false = refl

eqb-suc : (a b : ℕ) → nat_eq (suc a) (suc b) ≡ nat_eq a b
eqb-suc a b =
    elim (cases_eq a b) [
      | inl same ↦ eq-eqb (suc a) (suc b) (ap suc same) ∙ sym (eq-eqb a b same)
      | inr other ↦ ne_eqb (suc a) (suc b) (λ e. other (omega arith)) ∙ sym (ne_eqb a b other)
    ]

under_exact : (path names : PathValue) (d : ℕ) → d ≤ length path → (is_under path names && nat_eq (length names) d) ≡ same_path names (take d path)
under_exact [] [] zero within = refl
under_exact [] [] (suc d) within = absurd (omega arith)
under_exact [] (f ∷ fs) zero within = refl
under_exact [] (f ∷ fs) (suc d) within = absurd (omega arith)
under_exact (n ∷ ns) [] zero within = refl
under_exact (n ∷ ns) [] (suc d) within = ne_eqb 0 (suc d) (λ e. omega arith)
under_exact (n ∷ ns) (f ∷ fs) zero within = ap (λ b. (bytes_eq f n && is_under ns fs) && b) (ne_eqb (suc (length fs)) 0 (λ e. omega arith)) ∙ and_false (bytes_eq f n && is_under ns fs)
under_exact (n ∷ ns) (f ∷ fs) (suc d) within =
    ap (λ b. (bytes_eq f n && is_under ns fs) && b) (eqb-suc (length fs) d)
    ∙ and_assoc (bytes_eq f n) (is_under ns fs) (nat_eq (length fs) d)
    ∙ ap (λ b. bytes_eq f n && b) (under_exact ns fs d (omega arith))

under_le : (path names : PathValue) → is_under path names ≡ true → length names ≤ length path
under_le [] [] under = omega arith
under_le [] (f ∷ fs) under = cc
under_le (n ∷ ns) [] under = omega arith
under_le (n ∷ ns) (f ∷ fs) under = omega (arith, under_le ns fs (and_parts (bytes_eq f n) (is_under ns fs) under).1)

-- at an event after the last change the live rows are alive
alive_is : (seq last born : ℕ) (ended : Option ℕ) → last < seq → born ≤ last → IfSome ended (λ e. e ≤ last) → is_alive seq born ended ≡ is_none ended
alive_is seq last born None coming made over = lt-ltb born seq (omega arith)
alive_is seq last born (Some e) coming made over = rw (le-ltb seq e (omega arith)) (and_false (nat_lt born seq))

exact_is : (seq last : ℕ) (who : Who) (collection : ℕ) (path : PathValue) (d : ℕ) (row : AccessRow) → last < seq → d ≤ length path → row.born ≤ last
    → IfSome row.ended (λ e. e ≤ last)
    → (applies seq who collection path row && nat_eq (length row.spec.path) d) ≡ is_rule_of collection (take d path) who row
exact_is seq last who collection path d row coming within made over =
    let rest = λ (a : Bool). (a && nat_eq row.collection collection) && is_named row.spec.principal who in
    and_assoc (rest (is_alive seq row.born row.ended)) (is_under path row.spec.path) (nat_eq (length row.spec.path) d)
    ∙ ap (λ b. rest (is_alive seq row.born row.ended) && b) (under_exact path row.spec.path d within)
    ∙ ap (λ a. rest a && same_path row.spec.path (take d path)) (alive_is seq last row.born row.ended coming made over)

-- the number of a length and a rank, or 0 where there is none
abbrev weight : ℕ → ℕ → ℕ
weight d t = cond (nat_eq t 0) 0 (3 * d + t)

weight_more : (d t n : ℕ) (w : Bool) → n ≡ d → max (3 * n + cond w 2 1) (weight d t) ≡ weight d (max (cond w 2 1) t)
weight_more d t n true e =
    elim (cases_eq t 0) [
      | inl none ↦ rw (eq-eqb t 0 none, ne_eqb (max 2 t) 0 (λ z. omega arith)) (omega arith)
      | inr some ↦ rw (ne_eqb t 0 some, ne_eqb (max 2 t) 0 (λ z. omega arith)) (omega arith)
    ]
weight_more d t n false e =
    elim (cases_eq t 0) [
      | inl none ↦ rw (eq-eqb t 0 none, ne_eqb (max 1 t) 0 (λ z. omega arith)) (omega arith)
      | inr some ↦ rw (ne_eqb t 0 some, ne_eqb (max 1 t) 0 (λ z. omega arith)) (omega arith)
    ]

-- the best of the rows with just this front of the path
exact_best : (seq last : ℕ) (who : Who) (collection : ℕ) (path : PathValue) (d : ℕ) (rows : List AccessRow) → last < seq → d ≤ length path → NoneAfter last rows
    → best_of (filter (λ row. applies seq who collection path row && nat_eq (length row.spec.path) d) rows)
    ≡ weight d (top (is_rule_of collection (take d path) who) rows)
exact_best seq last who collection path d [] coming within none = refl
exact_best seq last who collection path d (row ∷ rows) coming within none =
    of_test (applies seq who collection path row && nat_eq (length row.spec.path) d) (is_rule_of collection (take d path) who row)
    (exact_is seq last who collection path d row coming within none.0 none.1)
    (λ e. eqb-true (length row.spec.path) d (and_parts (applies seq who collection path row) (nat_eq (length row.spec.path) d) e).1)
    (exact_best seq last who collection path d rows coming within none.2)
  where
    of_test : (b c : Bool) → b ≡ c → (b ≡ true → length row.spec.path ≡ d)
        → best_of (filter (λ r. applies seq who collection path r && nat_eq (length r.spec.path) d) rows) ≡ weight d (top (is_rule_of collection (take d path) who) rows)
        → best_of (cond b (row ∷ filter (λ r. applies seq who collection path r && nat_eq (length r.spec.path) d) rows) (filter (λ r. applies seq who collection path r && nat_eq (length r.spec.path) d) rows))
        ≡ weight d (max (cond c (permission_of row) 0) (top (is_rule_of collection (take d path) who) rows))
    of_test true true same own rest =
        ap (max (score_of row)) rest ∙ weight_more d (top (is_rule_of collection (take d path) who) rows) (length row.spec.path) row.spec.write (own refl)
    of_test true false same own rest = cc
    of_test false true same own rest = cc
    of_test false false same own rest = rest ∙ ap (weight d) (omega arith)

-- the rows with a shorter path than this
abbrev pub shorter : (AccessRow → Bool) → ℕ → AccessRow → Bool
shorter p d row = p row && nat_lt (length row.spec.path) d

split_best : (p : AccessRow → Bool) (d : ℕ) (rows : List AccessRow)
    → best_of (filter (shorter p (d + 1)) rows) ≡ max (best_of (filter (λ row. p row && nat_eq (length row.spec.path) d) rows)) (best_of (filter (shorter p d) rows))
split_best p d [] = refl
split_best p d (row ∷ rows) =
    elim (cases_order (length row.spec.path) d) [
      | inl same ↦
          of_tests (p row) true true false (lt-ltb (length row.spec.path) (d + 1) (omega arith)) (eq-eqb (length row.spec.path) d same)
          (le-ltb (length row.spec.path) d (omega arith)) refl (split_best p d rows)
      | inr differ ↦
          elim differ [
            | inl below ↦
                of_tests (p row) true false true (lt-ltb (length row.spec.path) (d + 1) (omega arith)) (ne_eqb (length row.spec.path) d (λ e. omega arith))
                (lt-ltb (length row.spec.path) d below) refl (split_best p d rows)
            | inr above ↦
                of_tests (p row) false false false (le-ltb (length row.spec.path) (d + 1) (omega arith)) (ne_eqb (length row.spec.path) d (λ e. omega arith))
                (le-ltb (length row.spec.path) d (omega arith)) refl (split_best p d rows)
          ]
    ]
  where
    choose : (b s t u : Bool) (w m n k : ℕ) → s ≡ (t || u) → k ≡ max m n → max (cond (b && s) w 0) k ≡ max (max (cond (b && t) w 0) m) (max (cond (b && u) w 0) n)
    choose true true true true w m n k e f = omega arith
    choose true true true false w m n k e f = omega arith
    choose true true false true w m n k e f = omega arith
    choose true true false false w m n k e f = cc
    choose true false true u w m n k e f = cc
    choose true false false true w m n k e f = cc
    choose true false false false w m n k e f = omega arith
    choose false s t u w m n k e f = omega arith

    pulled : (b : Bool) (rs : List AccessRow) → best_of (cond b (row ∷ rs) rs) ≡ max (cond b (score_of row) 0) (best_of rs)
    pulled true rs = refl
    pulled false rs = omega arith

    of_tests : (b s t u : Bool) → nat_lt (length row.spec.path) (d + 1) ≡ s → nat_eq (length row.spec.path) d ≡ t → nat_lt (length row.spec.path) d ≡ u
        → s ≡ (t || u)
        → best_of (filter (shorter p (d + 1)) rows) ≡ max (best_of (filter (λ r. p r && nat_eq (length r.spec.path) d) rows)) (best_of (filter (shorter p d) rows))
        → best_of (cond (b && nat_lt (length row.spec.path) (d + 1)) (row ∷ filter (shorter p (d + 1)) rows) (filter (shorter p (d + 1)) rows))
        ≡ max (best_of (cond (b && nat_eq (length row.spec.path) d) (row ∷ filter (λ r. p r && nat_eq (length r.spec.path) d) rows) (filter (λ r. p r && nat_eq (length r.spec.path) d) rows)))
        (best_of (cond (b && nat_lt (length row.spec.path) d) (row ∷ filter (shorter p d) rows) (filter (shorter p d) rows)))
    of_tests b s t u is_s is_t is_u sum rest =
        let upto = filter (shorter p (d + 1)) rows in
        let exact = filter (λ r. p r && nat_eq (length r.spec.path) d) rows in
        let below = filter (shorter p d) rows in
        pulled (b && nat_lt (length row.spec.path) (d + 1)) upto
        ∙ ap (λ v. max (cond (b && v) (score_of row) 0) (best_of upto)) is_s
        ∙ choose b s t u (score_of row) (best_of exact) (best_of below) (best_of upto) sum rest
        ∙ ap (λ v. max (max (cond (b && v) (score_of row) 0) (best_of exact)) (max (cond (b && u) (score_of row) 0) (best_of below))) (sym is_t)
        ∙ ap (λ v. max (max (cond (b && nat_eq (length row.spec.path) d) (score_of row) 0) (best_of exact)) (max (cond (b && v) (score_of row) 0) (best_of below))) (sym is_u)
        ∙ ap (λ n. max n (max (cond (b && nat_lt (length row.spec.path) d) (score_of row) 0) (best_of below))) (sym (pulled (b && nat_eq (length row.spec.path) d) exact))
        ∙ ap (max (best_of (cond (b && nat_eq (length row.spec.path) d) (row ∷ exact) exact))) (sym (pulled (b && nat_lt (length row.spec.path) d) below))

-- shorter paths count for less
low_best : (p : AccessRow → Bool) (d : ℕ) (rows : List AccessRow) → best_of (filter (shorter p d) rows) < 3 * d + 1
low_best p d [] = omega arith
low_best p d (row ∷ rows) = of_test (shorter p d row) (λ e. ltb-true (length row.spec.path) d (and_parts (p row) (nat_lt (length row.spec.path) d) e).1) (low_best p d rows)
  where
    of_test : (b : Bool) → (b ≡ true → length row.spec.path < d) → best_of (filter (shorter p d) rows) < 3 * d + 1
        → best_of (cond b (row ∷ filter (shorter p d) rows) (filter (shorter p d) rows)) < 3 * d + 1
    of_test true below rest = of_write row.spec.write (below refl) rest
      where
        of_write : (w : Bool) → length row.spec.path < d → best_of (filter (shorter p d) rows) < 3 * d + 1
            → max (3 * length row.spec.path + cond w 2 1) (best_of (filter (shorter p d) rows)) < 3 * d + 1
        of_write true below rest = omega arith
        of_write false below rest = omega arith
    of_test false below rest = rest

-- a walk along the fronts: none that is longer decides
pub all_fronts : (seq : ℕ) (who : Who) (collection : ℕ) (path : PathValue) (rows : List AccessRow)
    → best_of (filter (shorter (applies seq who collection path) (length path + 1)) rows) ≡ best_of (filter (applies seq who collection path) rows)
all_fronts seq who collection path rows =
    ap best_of
    (filter_agree (shorter (applies seq who collection path) (length path + 1)) (applies seq who collection path)
    (λ row. of_test row (applies seq who collection path row) refl) rows)
  where
    of_test : (row : AccessRow) (b : Bool) → applies seq who collection path row ≡ b → (b && nat_lt (length row.spec.path) (length path + 1)) ≡ b
    of_test row true e =
        let under = and_parts ((is_alive seq row.born row.ended && nat_eq row.collection collection) && is_named row.spec.principal who) (is_under path row.spec.path) e in
        lt-ltb (length row.spec.path) (length path + 1) (omega (arith, under_le path row.spec.path under.1))
    of_test row false e = refl

pub no_front : (p : AccessRow → Bool) (rows : List AccessRow) → best_of (filter (shorter p 0) rows) ≡ 0
no_front p rows = omega (arith, low_best p 0 rows)

-- a front with no rule is passed
pub front_passed : (seq last : ℕ) (who : Who) (collection : ℕ) (path : PathValue) (d : ℕ) (rows : List AccessRow) → last < seq → d ≤ length path → NoneAfter last rows
    → top (is_rule_of collection (take d path) who) rows ≡ 0
    → best_of (filter (shorter (applies seq who collection path) (d + 1)) rows) ≡ best_of (filter (shorter (applies seq who collection path) d) rows)
front_passed seq last who collection path d rows coming within none nothing =
    let exact = exact_best seq last who collection path d rows coming within none in
    let no : weight d (top (is_rule_of collection (take d path) who) rows) ≡ 0 = rw (eq-eqb (top (is_rule_of collection (take d path) who) rows) 0 nothing) refl in
    omega (arith, split_best (applies seq who collection path) d rows, exact, no)

-- a front with a rule decides
pub front_decides : (seq last : ℕ) (who : Who) (collection : ℕ) (path : PathValue) (d : ℕ) (rows : List AccessRow) → last < seq → d ≤ length path → NoneAfter last rows
    → top (is_rule_of collection (take d path) who) rows ≢ 0
    → best_of (filter (shorter (applies seq who collection path) (d + 1)) rows) ≡ 3 * d + top (is_rule_of collection (take d path) who) rows
front_decides seq last who collection path d rows coming within none some =
    let exact = exact_best seq last who collection path d rows coming within none in
    let own : weight d (top (is_rule_of collection (take d path) who) rows) ≡ 3 * d + top (is_rule_of collection (take d path) who) rows = rw (ne_eqb (top (is_rule_of collection (take d path) who) rows) 0 some) refl in
    omega (arith, split_best (applies seq who collection path) d rows, exact, own, low_best (applies seq who collection path) d rows, some)

-- the walk along the fronts, longest first: a front with a rule answers, one with none is passed, and past all there is no right
module _ (seq last : ℕ) (who : Who) (collection : ℕ) (path : PathValue) (rows : List AccessRow) (depth d : ℕ) (one : d + 1 ≡ depth) (within : depth ≤ length path + 1)
    (coming : last < seq) (none : NoneAfter last rows) (right : Right) (found : rank right ≡ top (is_rule_of collection (take d path) who) rows)
    (left : best_of (filter (shorter (applies seq who collection path) depth) rows) ≡ best_of (filter (applies seq who collection path) rows)) where
  pub front_answers : right ≢ Nothing → right ≡ greatest_right (deepest (filter (applies seq who collection path) rows))
  front_answers some =
      right_of_best d right (filter (applies seq who collection path) rows)
      (sym left
      ∙ sym (ap (λ n. best_of (filter (shorter (applies seq who collection path) n) rows)) one)
      ∙ front_decides seq last who collection path d rows coming (omega arith) none (λ zero_top. some (rank-same right Nothing (found ∙ zero_top)))
      ∙ ap (λ n. 3 * d + n) (sym found))

  pub front_left : right ≡ Nothing → best_of (filter (shorter (applies seq who collection path) d) rows) ≡ best_of (filter (applies seq who collection path) rows)
  front_left nothing =
      sym (front_passed seq last who collection path d rows coming (omega arith) none (sym found ∙ ap rank nothing))
      ∙ ap (λ n. best_of (filter (shorter (applies seq who collection path) n) rows)) one
      ∙ left

pub no_front_left : (p : AccessRow → Bool) (rows : List AccessRow) (depth : ℕ) → depth ≤ 0
    → best_of (filter (shorter p depth) rows) ≡ best_of (filter p rows) → Nothing ≡ greatest_right (deepest (filter p rows))
no_front_left p rows depth end left =
    let e : depth ≡ 0 = omega arith in
    right_of_best 0 Nothing (filter p rows) (sym left ∙ ap (λ n. best_of (filter (shorter p n) rows)) e ∙ no_front p rows)
