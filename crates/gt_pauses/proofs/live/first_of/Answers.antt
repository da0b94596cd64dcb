use Rattle.std.proofs.Common.{List, None, Option, Some, ap, arith, refl, slice_get, sym, ℕ, ◌&&◌, ◌∙◌, ◌≡◌}
use Rattle.std.proofs.lemmas.Grind.{common_steps}
use Rattle.std.proofs.lemmas.Option.{gets}
use Rattle.std.specs.Cmp.{IsTotalOrder, nat_cmp_total, on_total, then_total}
use Rattle.std.specs.Cmp.Lexicographic.{nat_list_cmp_total, options_total, slice_cmp, texts_ties}
use Rattle.std.specs.Option.{option_cmp, option_eq}
use Rattle.std.specs.Ordering.{is_eq, nat_cmp, ordering_then}
use Rattle.std.specs.Str.{bytes_eq}
use Rattle.std.specs.declared.cmp.Ordering.{Ordering}
use Rattle.gt_index.specs.Index.{places_where}
use Rattle.gt_pauses.specs.Indexed.{is_live_with, is_row_for}
use Rattle.gt_pauses.specs.declared.row.PauseAct.{PauseAct}
use Rattle.gt_pauses.specs.declared.row.PauseRow.{PauseRow}
use Rattle.gt_pauses.proofs.FirstLemmas.{first_none, first_other, first_own, first_there, key_is, places_agree}
use Rattle.gt_pauses.proofs.live.first_of.Goals as goal

ties : (x y : Option (List ℕ)) → is_eq (option_cmp (slice_cmp nat_cmp) x y) ≡ option_eq bytes_eq x y
ties None None = refl
ties None (Some b) = refl
ties (Some a) None = refl
ties (Some a) (Some b) = sym (texts_ties a b)

abbrev Key : Type 0
Key = ℕ × Option (List ℕ)

abbrev key_cmp : Key → Key → Ordering
key_cmp a b = ordering_then (nat_cmp a.0 b.0) (option_cmp (slice_cmp nat_cmp) a.1 b.1)

abbrev key_of : PauseRow → Key
key_of row = (row.spec.collection, row.spec.identity)

key_total : IsTotalOrder key_cmp
key_total = then_total (on_total (λ (k : Key). k.0) nat_cmp_total) (on_total (λ (k : Key). k.1) (options_total nat_list_cmp_total))

-- the first place with the key, as the clause says it
asked_is : (act : PauseAct) (collection : ℕ) (identity : Option (List ℕ)) (rows : List PauseRow)
    → slice_get (places_where (λ row. is_live_with act row && is_eq (key_cmp (key_of row) (collection, identity))) rows) 0
    ≡ slice_get (places_where (is_row_for act collection identity) rows) 0
asked_is act collection identity rows =
    ap (λ places. slice_get places 0) (places_agree 0 _ _ rows (key_is (option_cmp (slice_cmp nat_cmp)) ties act collection identity))

pub returns-in_err-place : goal.returns-in_err-place
returns-in_err-place c =
    let a = c.args in
    c.from_residual.ensures
    ∙ sym (first_none key_cmp key_total key_of (a.collection, a.identity) (is_live_with a.act) a.rows.now (c.in_err-place.ensures (is_live_with a.act) c.requires))
    ∙ asked_is a.act a.collection a.identity a.rows.now

pub returns-in_err-row : goal.returns-in_err-row
returns-in_err-row c =
    let a = c.args in
    let none : slice_get a.rows.now c.in_ok-place.place ≡ None = grind (arith, common_steps, gets) in
    absurd
    (first_there key_cmp key_total key_of (a.collection, a.identity) (is_live_with a.act) a.rows.now c.in_ok-place.place
    (c.in_ok-place.ensures (is_live_with a.act) c.requires) none)

pub returns-then-is_eq : goal.returns-then-is_eq
returns-then-is_eq c =
    let a = c.args in
    let found : slice_get a.rows.now c.in_ok-place.place ≡ Some c.in_ok-row.row.now = grind (arith, common_steps, gets) in
    sym
    (first_own key_cmp key_total key_of (a.collection, a.identity) (is_live_with a.act) a.rows.now c.in_ok-place.place c.in_ok-row.row.now
    (c.in_ok-place.ensures (is_live_with a.act) c.requires) found (sym (ap is_eq c.standing.ensures) ∙ sym c.is_eq.ensures ∙ c.if-is_eq.true))
    ∙ asked_is a.act a.collection a.identity a.rows.now

pub returns-else-is_eq : goal.returns-else-is_eq
returns-else-is_eq c =
    let a = c.args in
    let found : slice_get a.rows.now c.in_ok-place.place ≡ Some c.in_ok-row.row.now = grind (arith, common_steps, gets) in
    sym
    (first_other key_cmp key_total key_of (a.collection, a.identity) (is_live_with a.act) a.rows.now c.in_ok-place.place c.in_ok-row.row.now
    (c.in_ok-place.ensures (is_live_with a.act) c.requires) found (sym (ap is_eq c.standing.ensures) ∙ sym c.is_eq.ensures ∙ c.if-is_eq.false))
    ∙ asked_is a.act a.collection a.identity a.rows.now
