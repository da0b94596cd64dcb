-- At most one live rule has a number; and at most one has a collection, principal and path.
use Rattle.std.proofs.Common.{◌≡◌, ◌≤◌, ℕ, List, map, max, fold, Bool, true, false, Option, Some, refl, sym, ap, ◌∙◌, subst, arith, rules, cond}
use Rattle.std.specs.Prelude.{◌==◌, IsNone, slice_get}
use Rattle.std.specs.List.{list_any}
use Rattle.std.specs.Option.{option_map}
use Rattle.std.proofs.lemmas.Bool.{eq-eqb, eqb-true}
use Rattle.std.proofs.lemmas.Option.{slice_get-map}
use lib.Pointwise.{bytes_decides, pointwise_decides}
use Rattle.gt_paths.specs.Path.{PathValue, same_path}
use Rattle.gt_types.specs.declared.rule.AccessSpec.{AccessSpec}
use Rattle.gt_types.specs.declared.rule.Principal.{Principal}
use Rattle.gt_types.specs.declared.rule.Principal.TheVariants.{Identity, Group, AllAuthenticated, Anonymous}
use Rattle.gt_access.specs.Rule.{access_row, added_access, ended_access, is_live_access, is_live_rule, is_same_rule, live_access, next_rule, replaced_access, same_principal}
use Rattle.gt_access.specs.declared.row.AccessRow.{AccessRow}
use Rattle.gt_machine.specs.RuleSteps.{replaced_spec}
use Rattle.gt_machine.specs.SoundRows.{HasOneLive, rule_key}
use Rattle.gt_machine.proofs.Effects.{first_holds, second_holds}
use Rattle.gt_machine.proofs.OneLive.{HasNone, KeepsKey, below_fold_max, found_at, map_at, one_live-append, one_live-map, passes_none}

abbrev pub end_of_row : AccessRow → Option ℕ
end_of_row row = row.ended

abbrev pub number_of_row : AccessRow → ℕ
number_of_row row = row.number

-- the change that ends the live row of the number
abbrev pub ending_row : ℕ → ℕ → AccessRow → AccessRow
ending_row k n row = cond (is_live_rule n row) (record row { ended = Some k }) row

-- a row that is live after it was live before, and is another
live_after : (k n : ℕ) (x : AccessRow) → IsNone (ending_row k n x).ended → IsNone x.ended × (ending_row k n x ≡ x) × ((is_live_rule n x) ≡ false)
live_after k n x live = by_cases (is_live_rule n x) refl live
  where
    by_cases : (b : Bool) → (is_live_rule n x) ≡ b → IsNone (cond b (record x { ended = Some k }) x).ended
        → IsNone x.ended × (cond b (record x { ended = Some k }) x ≡ x) × (b ≡ false)
    by_cases true e l = absurd (cc)
    by_cases false e l = (l, refl, refl)

pub keeps-number : (k n : ℕ) → KeepsKey end_of_row number_of_row (ending_row k n)
keeps-number k n x live = let l = live_after k n x live in (l.0, ap number_of_row l.1)

pub keeps-key : (k n : ℕ) → KeepsKey end_of_row rule_key (ending_row k n)
keeps-key k n x live = let l = live_after k n x live in (l.0, ap rule_key l.1)

-- no live row of the number is left
none_left : (k n : ℕ) (rows : List AccessRow) → HasNone end_of_row number_of_row n (ended_access k n rows)
none_left k n rows i a at live same =
    let x = map_at (ending_row k n) rows i a at in
    let l = live_after k n x.0 (subst (λ (r : AccessRow). IsNone r.ended) (sym x.2) live) in
    let number : x.0.number ≡ n = ap number_of_row (sym l.1 ∙ x.2) ∙ same in
    absurd (grind (rules, l.0, l.2, eq-eqb x.0.number n number))

-- the next rule's number is above all
none_above : (rows : List AccessRow) → HasNone end_of_row number_of_row (next_rule rows) rows
none_above rows i x at live same =
    let below : x.number ≤ fold max 0 (map number_of_row rows) = below_fold_max 0 (map number_of_row rows) i x.number (slice_get-map number_of_row rows i ∙ ap (option_map number_of_row) at) in
    absurd (omega (arith, below, same))

-- a principal and a path are the same as themselves
principal_same : (p : Principal) → same_principal p p ≡ true
principal_same (Identity a) = (bytes_decides a a).1 refl
principal_same (Group a) = (bytes_decides a a).1 refl
principal_same AllAuthenticated = refl
principal_same Anonymous = refl

path_same : (p : PathValue) → same_path p p ≡ true
path_same p = (pointwise_decides bytes_decides p p).1 refl

-- where no live row is the same as the rule, none has its key
none_same : (collection : ℕ) (spec : AccessSpec) (rows : List AccessRow) → list_any (is_same_rule collection spec) rows ≡ false
    → HasNone end_of_row rule_key (collection, spec.principal, spec.path) rows
none_same collection spec rows none i x at live same = passes_none (is_same_rule collection spec) rows i x none at is_same
  where
    in_collection : (x.collection == collection) ≡ true
    in_collection = eq-eqb x.collection collection (ap (λ (key : ℕ × Principal × PathValue). key.0) same)

    of_principal : same_principal x.spec.principal spec.principal ≡ true
    of_principal = subst (λ (p : Principal). same_principal x.spec.principal p ≡ true) (ap (λ (key : ℕ × Principal × PathValue). key.1) same) (principal_same x.spec.principal)

    of_path : same_path x.spec.path spec.path ≡ true
    of_path = subst (λ (p : PathValue). same_path x.spec.path p ≡ true) (ap (λ (key : ℕ × Principal × PathValue). key.2) same) (path_same x.spec.path)

    is_same : is_same_rule collection spec x ≡ true
    is_same = grind (rules, live, in_collection, of_principal, of_path)

bool_both : (b : Bool) → b ≡ true → b ≡ false → ⊥
bool_both b is_true is_false = let both : true ≡ false = sym is_true ∙ is_false in cc

-- the row that is replaced has its key alone
none_replaced : (k n : ℕ) (row : AccessRow) (rows : List AccessRow) → live_access n rows ≡ Some row → HasOneLive end_of_row rule_key rows
    → HasNone end_of_row rule_key (rule_key row) (ended_access k n rows)
none_replaced k n row rows found one i a at live same =
    let x = map_at (ending_row k n) rows i a at in
    let l = live_after k n x.0 (subst (λ (r : AccessRow). IsNone r.ended) (sym x.2) live) in
    let f = found_at (is_live_rule n) rows row found in
    let live_row : IsNone row.ended = live_of row (first_holds _ _ f.2) in
    let same_place : i ≡ f.0 = one i f.0 x.0 row x.1 f.1 l.0 live_row (ap rule_key (sym l.1 ∙ x.2) ∙ same) in
    let here : slice_get rows i ≡ Some row = ap (λ (j : ℕ). slice_get rows j) same_place ∙ f.1 in
    let one_row : x.0 ≡ row = some_same x.0 row (sym x.1 ∙ here) in
    absurd (bool_both (is_live_rule n row) f.2 (subst (λ (r : AccessRow). is_live_rule n r ≡ false) one_row l.2))
  where
    live_of : (r : AccessRow) → is_live_access r ≡ true → IsNone r.ended
    live_of r is = grind (rules, is)

    some_same : (a b : AccessRow) → Some a ≡ Some b → a ≡ b
    some_same a b is = cc

-- both keys, of all live rules
pub record HasOneRuleEach (rows : List AccessRow) : Type 0 where
  pub numbers : HasOneLive end_of_row number_of_row rows
  pub keys : HasOneLive end_of_row rule_key rows

pub one-ended : (k n : ℕ) (rows : List AccessRow) → HasOneRuleEach rows → HasOneRuleEach (ended_access k n rows)
one-ended k n rows one = record {
  numbers = one_live-map end_of_row number_of_row (ending_row k n) rows (keeps-number k n) one.numbers;
  keys = one_live-map end_of_row rule_key (ending_row k n) rows (keeps-key k n) one.keys;
}

pub one-added : (k collection : ℕ) (spec : AccessSpec) (rows : List AccessRow) → list_any (is_same_rule collection spec) rows ≡ false → HasOneRuleEach rows
    → HasOneRuleEach (added_access k collection spec rows)
one-added k collection spec rows none one = record {
  numbers = one_live-append end_of_row number_of_row rows (access_row (next_rule rows) k collection spec) one.numbers (none_above rows);
  keys = one_live-append end_of_row rule_key rows (access_row (next_rule rows) k collection spec) one.keys (none_same collection spec rows none);
}

pub one-replaced : (k n : ℕ) (write : Bool) (row : AccessRow) (rows : List AccessRow) → live_access n rows ≡ Some row → HasOneRuleEach rows
    → HasOneRuleEach (replaced_access k (replaced_spec write row) row rows)
one-replaced k n write row rows found one = record {
  numbers = one_live-append end_of_row number_of_row (ended_access k row.number rows) _ (one-ended k row.number rows one).numbers (none_left k row.number rows);
  keys = one_live-append end_of_row rule_key (ended_access k row.number rows) _ (one-ended k row.number rows one).keys
      (none_replaced k row.number row rows (subst (λ (m : ℕ). live_access m rows ≡ Some row) (sym same_number) found) one.keys);
}
  where
    same_number : row.number ≡ n
    same_number = let f = found_at (is_live_rule n) rows row found in eqb-true row.number n (second_holds (is_live_access row) (row.number == n) f.2)
