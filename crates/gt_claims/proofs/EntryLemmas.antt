-- Lists of entries, each item once, and the maps that they stand for.
use Rattle.std.proofs.Common.{Bool, List, None, Option, Some, [], ap, cond, false, filter, inl, inr, nat_eq, not, refl, sym, true, ℕ, ◌++◌, ◌∙◌, ◌∷◌, ◌≡◌}
use Rattle.std.proofs.lemmas.Bool.{cases_eq, eq-eqb, false_from_ne_true, ne_eqb}
use Rattle.std.specs.Cmp.{nat_cmp_total, tied_itself}
use Rattle.std.specs.FinMap.{FinMap, find, from_entries, from_entries_push, get, get-from_entries, get-insert, get-remove, insert, nat_cmp-IsAntisymmetric, remove, same_map}
use Rattle.std.specs.FinMap.Entries.{find-append, find-where_key}
use Rattle.std.specs.Ordering.{eq_by_cmp, is_eq, nat_cmp}
use Rattle.std.specs.declared.cmp.Ordering.{Ordering}
use Rattle.std.specs.declared.cmp.Ordering.TheVariants.{Equal, Greater, Less}
use Rattle.gt_claims.specs.Table.{IsEachOnce}

equal_from : (order : Ordering) → is_eq order ≡ true → order ≡ Equal
equal_from Less e = cc
equal_from Equal e = refl
equal_from Greater e = cc

tied_same : (q k : ℕ) → q ≡ k → eq_by_cmp nat_cmp q k ≡ true
tied_same q k e = ap (λ n. eq_by_cmp nat_cmp q n) (sym e) ∙ ap is_eq (tied_itself nat_cmp_total q)

tied_other : (q k : ℕ) → (q ≡ k → ⊥) → eq_by_cmp nat_cmp q k ≡ false
tied_other q k other = false_from_ne_true (eq_by_cmp nat_cmp q k) (λ e. other (nat_cmp-IsAntisymmetric q k (equal_from (nat_cmp q k) e)))

none_or_none : {X : Type 0} (b : Bool) → ◌≡◌ {A = Option X} (cond b None None) None
none_or_none true = refl
none_or_none false = refl

shadowed : {X : Type 0} (b : Bool) (o p : Option X) → cond b o (cond b None p) ≡ cond b o p
shadowed true o p = refl
shadowed false o p = refl

module _ {X : Type 0} where
  -- what is found at the first entry, and behind it
  pub find_here : (q : ℕ) (e : ℕ × X) (es : List (ℕ × X)) → q ≡ e.0 → find nat_cmp q (e ∷ es) ≡ Some e.1
  find_here q e es same = ap (λ b. cond b (Some e.1) (find nat_cmp q es)) (tied_same q e.0 same)

  pub find_behind : (q : ℕ) (e : ℕ × X) (es : List (ℕ × X)) → (q ≡ e.0 → ⊥) → find nat_cmp q (e ∷ es) ≡ find nat_cmp q es
  find_behind q e es other = ap (λ b. cond b (Some e.1) (find nat_cmp q es)) (tied_other q e.0 other)

  -- the entries of other items
  abbrev pub others : ℕ → List (ℕ × X) → List (ℕ × X)
  others item es = filter (λ e. not (nat_eq e.0 item)) es

  same_choice : (q item : ℕ) (o : Option X) → cond (not (nat_eq q item)) o None ≡ cond (eq_by_cmp nat_cmp q item) None o
  same_choice q item o =
      elim (cases_eq q item) [
        | inl same ↦ ap (λ b. cond (not b) o None) (eq-eqb q item same) ∙ sym (ap (λ b. cond b None o) (tied_same q item same))
        | inr other ↦ ap (λ b. cond (not b) o None) (ne_eqb q item other) ∙ sym (ap (λ b. cond b None o) (tied_other q item other))
      ]

  find-others : (q item : ℕ) (es : List (ℕ × X)) → find nat_cmp q (others item es) ≡ cond (eq_by_cmp nat_cmp q item) None (find nat_cmp q es)
  find-others q item es =
      find-where_key nat_cmp (λ x. not (nat_eq x item)) q (λ x e. ap (λ y. not (nat_eq y item)) (sym (nat_cmp-IsAntisymmetric q x e))) es
      ∙ same_choice q item (find nat_cmp q es)

  none_of_others : (q item : ℕ) (es : List (ℕ × X)) → find nat_cmp q es ≡ None → find nat_cmp q (others item es) ≡ None
  none_of_others q item es none =
      find-others q item es ∙ ap (cond (eq_by_cmp nat_cmp q item) None) none ∙ none_or_none (eq_by_cmp nat_cmp q item)

  once_others : (item : ℕ) (es : List (ℕ × X)) → IsEachOnce es → IsEachOnce (others item es)
  once_others item [] once = tt
  once_others item (e ∷ es) once =
      elim (not (nat_eq e.0 item)) as (λ b. IsEachOnce (cond b (e ∷ others item es) (others item es))) [
        | true ↦ (none_of_others e.0 item es once.0, once_others item es once.1)
        | false ↦ once_others item es once.1
      ]

  -- the entries without the item
  pub IsEachOnce-dropped : (item : ℕ) (es after : List (ℕ × X)) → after ≡ others item es → IsEachOnce es → IsEachOnce after
  IsEachOnce-dropped item es after is once = rw is (once_others item es once)

  pub dropped_is : (item : ℕ) (es after : List (ℕ × X)) → after ≡ others item es
      → from_entries {R = nat_cmp} after ≡ remove (from_entries {R = nat_cmp} es) item
  dropped_is item es after is =
      ap (λ xs. from_entries {R = nat_cmp} xs) is
      ∙ same_map nat_cmp_total nat_cmp-IsAntisymmetric _ _
      (λ q.
      get-from_entries nat_cmp_total (others item es) q
      ∙ find-others q item es
      ∙ sym (get-remove nat_cmp_total (from_entries {R = nat_cmp} es) item q
      ∙ ap (cond (eq_by_cmp nat_cmp q item) None) (get-from_entries nat_cmp_total es q)))

  -- an item that was removed isn't found
  pub none_after : (m : FinMap nat_cmp X) (item : ℕ) (es : List (ℕ × X)) → from_entries es ≡ remove m item → find nat_cmp item es ≡ None
  none_after m item es is =
      sym (get-from_entries nat_cmp_total es item)
      ∙ ap (λ x. get x item) is
      ∙ get-remove nat_cmp_total m item item
      ∙ ap (λ b. cond b None (get m item)) (tied_same item item refl)

  once_push : (item : ℕ) (value : X) (es : List (ℕ × X)) → find nat_cmp item es ≡ None → IsEachOnce es → IsEachOnce (es ++ (item, value) ∷ [])
  once_push item value [] none once = (refl, tt)
  once_push item value (e ∷ es) none once =
      let other : e.0 ≡ item → ⊥ = λ same. let found = find_here item e es (sym same) in cc in
      let rest : find nat_cmp item es ≡ None = sym (find_behind item e es (λ same. other (sym same))) ∙ none in (
        find-append nat_cmp nat_cmp_total es item value e.0 rest
            ∙ ap (λ b. cond b (Some value) (find nat_cmp e.0 es)) (tied_other e.0 item other)
            ∙ once.0,
        once_push item value es rest once.1,
      )

  -- the entries with the item behind them
  pub IsEachOnce-put : (item : ℕ) (value : X) (es after : List (ℕ × X)) → after ≡ es ++ (item, value) ∷ [] → find nat_cmp item es ≡ None
      → IsEachOnce es → IsEachOnce after
  IsEachOnce-put item value es after is none once = rw is (once_push item value es none once)

  insert-remove : (m : FinMap nat_cmp X) (item : ℕ) (value : X) → insert (remove m item) item value ≡ insert m item value
  insert-remove m item value =
      same_map nat_cmp_total nat_cmp-IsAntisymmetric _ _
      (λ q.
      get-insert nat_cmp_total (remove m item) item value q
      ∙ ap (cond (eq_by_cmp nat_cmp q item) (Some value)) (get-remove nat_cmp_total m item q)
      ∙ shadowed (eq_by_cmp nat_cmp q item) (Some value) (get m q)
      ∙ sym (get-insert nat_cmp_total m item value q))

  pub put_is : (m : FinMap nat_cmp X) (item : ℕ) (value : X) (es after : List (ℕ × X)) → from_entries es ≡ remove m item
      → after ≡ es ++ (item, value) ∷ [] → from_entries after ≡ insert m item value
  put_is m item value es after without is =
      ap (λ xs. from_entries {R = nat_cmp} xs) is
      ∙ from_entries_push nat_cmp_total nat_cmp-IsAntisymmetric es item value (none_after m item es without)
      ∙ ap (λ x. insert x item value) without
      ∙ insert-remove m item value
