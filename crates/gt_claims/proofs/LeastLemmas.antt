-- The least item of the entries that pass a test.
use Rattle.std.proofs.Common.{Bool, List, None, Option, Some, [], ap, arith, cond, false, inl, inr, min, refl, sym, true, ℕ, ◌∙◌, ◌∷◌, ◌≡◌, ◌≤◌, ◌⊎◌}
use Rattle.std.proofs.lemmas.Bool.{cases_eq, cases_lt, false_from_ne_true}
use Rattle.std.specs.Cmp.{nat_cmp_total}
use Rattle.std.specs.FinMap.{FinMap, find, from_entries, get, get-from_entries}
use Rattle.std.specs.List.{fold}
use Rattle.std.specs.Option.{option_map_or, unwrap_or}
use Rattle.std.specs.Ordering.{nat_cmp}
use Rattle.std.specs.Prelude.{IfSome, IsNone, is_some}
use Rattle.gt_claims.specs.Claims.{IsLeastClaimed, is_claimed_with}
use Rattle.gt_claims.specs.Table.{IsEachOnce}
use Rattle.gt_claims.specs.declared.claim.Claim.{Claim}
use Rattle.gt_claims.proofs.EntryLemmas.{find_behind, find_here}

-- the item, or the least one so far where that is less
abbrev pub lesser : ℕ → Option ℕ → ℕ
lesser item least = min (unwrap_or least item) item

lesser_is : (item : ℕ) (least : Option ℕ) → (least ≡ Some (lesser item least)) ⊎ (lesser item least ≡ item)
lesser_is item None = inr (omega arith)
lesser_is item (Some n) =
    elim (cases_lt n item) [
      | inl below ↦ let e : n ≡ min n item = omega arith in inl (ap Some e)
      | inr above ↦ inr (omega arith)
    ]

lesser-le : (item : ℕ) (least : Option ℕ) → lesser item least ≤ item
lesser-le item None = omega arith
lesser-le item (Some n) = omega arith

lesser-le_least : (item : ℕ) (least : Option ℕ) (n : ℕ) → least ≡ Some n → lesser item least ≤ n
lesser-le_least item None n e = cc
lesser-le_least item (Some m) n e =
    let same : m ≡ n = cc in
    omega arith

-- whether the entry of the item passes the test
abbrev holds : {X : Type 0} → (X → Bool) → List (ℕ × X) → ℕ → Bool
holds hits es q = option_map_or hits (find nat_cmp q es) false

-- the least item that passes, after one entry more
abbrev pub met : {X : Type 0} → (X → Bool) → Option ℕ → ℕ × X → Option ℕ
met hits least e = cond (hits e.1) (Some (lesser e.0 least)) least

-- what a walk over the entries makes of the least item before it
record IsWalked {X : Type 0} (hits : X → Bool) (es : List (ℕ × X)) (before after : Option ℕ) : Type 0 where
  found : (n : ℕ) → after ≡ Some n → (before ≡ Some n) ⊎ (holds hits es n ≡ true)
  bound : (q : ℕ) → holds hits es q ≡ true → (m : ℕ) × (after ≡ Some m) × (m ≤ q)
  kept : (n : ℕ) → before ≡ Some n → (m : ℕ) × (after ≡ Some m) × (m ≤ n)

module _ {X : Type 0} (hits : X → Bool) where
  holds_here : (q : ℕ) (e : ℕ × X) (es : List (ℕ × X)) → q ≡ e.0 → holds hits (e ∷ es) q ≡ hits e.1
  holds_here q e es same = ap (λ o. option_map_or hits o false) (find_here q e es same)

  holds_behind : (q : ℕ) (e : ℕ × X) (es : List (ℕ × X)) → (q ≡ e.0 → ⊥) → holds hits (e ∷ es) q ≡ holds hits es q
  holds_behind q e es other = ap (λ o. option_map_or hits o false) (find_behind q e es other)

  -- an item behind the first entry is another
  still_holds : (n : ℕ) (e : ℕ × X) (es : List (ℕ × X)) → find nat_cmp e.0 es ≡ None → holds hits es n ≡ true → holds hits (e ∷ es) n ≡ true
  still_holds n e es none h =
      let other : n ≡ e.0 → ⊥ = λ same.
      let nothing : holds hits es n ≡ false =
      ap (λ q. holds hits es q) same ∙ ap (λ o. option_map_or hits o false) none in
      cc in
      holds_behind n e es other ∙ h

  -- an item of the entries that isn't the first
  holds_later : (q : ℕ) (e : ℕ × X) (es : List (ℕ × X)) → hits e.1 ≡ false → holds hits (e ∷ es) q ≡ true → holds hits es q ≡ true
  holds_later q e es miss h =
      let other : q ≡ e.0 → ⊥ = λ same.
      let fails : holds hits (e ∷ es) q ≡ false = holds_here q e es same ∙ miss in
      cc in
      sym (holds_behind q e es other) ∙ h

  no_more : (e : ℕ × X) (es : List (ℕ × X)) (before after : Option ℕ) → find nat_cmp e.0 es ≡ None → hits e.1 ≡ false
      → IsWalked hits es before after → IsWalked hits (e ∷ es) before after
  no_more e es before after none miss walked =
      record {
        found = λ n is.
            elim (walked.found n is) [
              | inl old ↦ inl old
              | inr h ↦ inr (still_holds n e es none h)
            ];
        bound = λ q h. walked.bound q (holds_later q e es miss h);
        kept = walked.kept;
      }

  at_first : (e : ℕ × X) (es : List (ℕ × X)) (before : Option ℕ) (n : ℕ) → hits e.1 ≡ true → Some (lesser e.0 before) ≡ Some n
      → (before ≡ Some n) ⊎ (holds hits (e ∷ es) n ≡ true)
  at_first e es before n hit is =
      let same : lesser e.0 before ≡ n = cc in
      elim (lesser_is e.0 before) [
        | inl old ↦ inl (old ∙ ap Some same)
        | inr own ↦ inr (holds_here n e es (sym same ∙ own) ∙ hit)
      ]

  one_more : (e : ℕ × X) (es : List (ℕ × X)) (before after : Option ℕ) → find nat_cmp e.0 es ≡ None → hits e.1 ≡ true
      → IsWalked hits es (Some (lesser e.0 before)) after → IsWalked hits (e ∷ es) before after
  one_more e es before after none hit walked =
      let first = walked.kept (lesser e.0 before) refl in
      record {
        found = λ n is.
            elim (walked.found n is) [
              | inl now ↦ at_first e es before n hit now
              | inr h ↦ inr (still_holds n e es none h)
            ];
        bound = λ q h.
            elim (cases_eq q e.0) [
              | inl same ↦ (first.0, first.1, omega (arith, first.2, lesser-le e.0 before))
              | inr other ↦ walked.bound q (sym (holds_behind q e es other) ∙ h)
            ];
        kept = λ n is. (first.0, first.1, omega (arith, first.2, lesser-le_least e.0 before n is));
      }

  first_met : (e : ℕ × X) (es : List (ℕ × X)) (before : Option ℕ) (b : Bool) → hits e.1 ≡ b → find nat_cmp e.0 es ≡ None
      → ((least : Option ℕ) → IsWalked hits es least (fold (met hits) least es))
      → IsWalked hits (e ∷ es) before (fold (met hits) (cond b (Some (lesser e.0 before)) before) es)
  first_met e es before true is none rest =
      one_more e es before (fold (met hits) (Some (lesser e.0 before)) es) none is (rest (Some (lesser e.0 before)))
  first_met e es before false is none rest = no_more e es before (fold (met hits) before es) none is (rest before)

  walked : (es : List (ℕ × X)) → IsEachOnce es → (before : Option ℕ) → IsWalked hits es before (fold (met hits) before es)
  walked [] once before =
      record {
        found = λ n is. inl is;
        bound = λ q h. cc;
        kept = λ n is. (n, is, omega arith);
      }
  walked (e ∷ es) once before = first_met e es before (hits e.1) refl once.0 (λ least. walked es once.1 least)

-- the test on the map and on its entries
claimed_is : (hits : Claim → Bool) (es : List (ℕ × Claim)) (claims : FinMap nat_cmp Claim) → from_entries es ≡ claims → (q : ℕ)
    → is_claimed_with hits claims q ≡ holds hits es q
claimed_is hits es claims is q =
    ap (λ o. option_map_or hits o false) (ap (λ m. get m q) (sym is) ∙ get-from_entries nat_cmp_total es q)

some_claimed : (hits : Claim → Bool) (es : List (ℕ × Claim)) (claims : FinMap nat_cmp Claim) (least : Option ℕ) → from_entries es ≡ claims
    → IsWalked hits es None least → IfSome least (IsLeastClaimed hits claims)
some_claimed hits es claims None is walk = tt
some_claimed hits es claims (Some n) is walk =
    record {
      passes =
          elim (walk.found n refl) [
            | inl old ↦ cc
            | inr h ↦ claimed_is hits es claims is n ∙ h
          ];
      least = λ other h.
          let bound = walk.bound other (sym (claimed_is hits es claims is other) ∙ h) in
          let same : n ≡ bound.0 = cc (bound.1) in
          omega (arith, same, bound.2);
    }

-- the least item that is met is the least whose claim passes
pub least_claimed : (hits : Claim → Bool) (es : List (ℕ × Claim)) (claims : FinMap nat_cmp Claim) (least : Option ℕ) → IsEachOnce es → from_entries es ≡ claims
    → least ≡ fold (met hits) None es → IfSome least (IsLeastClaimed hits claims)
least_claimed hits es claims least once is met_is = some_claimed hits es claims least is (rw met_is (walked hits es once None))

-- where no item is met, no claim passes
pub none_claimed : (hits : Claim → Bool) (es : List (ℕ × Claim)) (claims : FinMap nat_cmp Claim) (least : Option ℕ) → IsEachOnce es → from_entries es ≡ claims
    → least ≡ fold (met hits) None es → IsNone least → (item : ℕ) → is_claimed_with hits claims item ≡ false
none_claimed hits es claims least once is met_is none item =
    false_from_ne_true (is_claimed_with hits claims item) (λ h.
    let bound = (walked hits es once None).bound item (sym (claimed_is hits es claims is item) ∙ h) in
    let some : is_some least ≡ true = ap is_some (met_is ∙ bound.1) in
    cc)
