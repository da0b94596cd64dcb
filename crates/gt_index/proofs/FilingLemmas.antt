-- An index after a row has come or changed.
use Rattle.std.proofs.Common.{Bool, List, None, Option, Some, [], ap, drop, false, inl, inr, nat_eq, refl, slice_get, sym, true, suc, zero, ℕ, ◌&&◌, ◌∙◌, ◌∷◌, ◌≡◌, ◌≢◌}
use Rattle.std.proofs.lemmas.Bool.{and_from, and_parts, cases_eq, eq-eqb, false_from_ne_true, ne_eqb, or_right}
use Rattle.std.specs.Cmp.{IsTotalOrder}
use Rattle.std.specs.List.{insert, list_all, remove}
use Rattle.std.specs.Option.{option_map, option_map_or}
use Rattle.std.specs.declared.cmp.Ordering.{Ordering}
use Rattle.gt_index.specs.Index.{DiffersAt, IsIndex, Rises, is_before, is_one_of, key_at, passes_at}
use Rattle.gt_index.specs.Split.{IsSplit, is_at}
use Rattle.gt_index.proofs.RiseLemmas.{at_place, one_first, one_insert, one_remove, rest_before, rises_insert, rises_remove}

all_more_at : (p q : ℕ → Bool) (xs : List ℕ) → ((x : ℕ) → is_one_of x xs ≡ true → p x ≡ true → q x ≡ true) → list_all p xs ≡ true → list_all q xs ≡ true
all_more_at p q [] more all = refl
all_more_at p q (x ∷ xs) more all =
    let parts = and_parts (p x) (list_all p xs) all in
    and_from (q x) (list_all q xs) (more x (one_first x xs) parts.0)
    (all_more_at p q xs (λ y one. more y (or_right (nat_eq x y) (is_one_of y xs) one)) parts.1)

-- places with the same keys rise alike
rises_agree : {K : Type 0} (cmp : K → K → Ordering) (first second : ℕ → Option K) (xs : List ℕ) → ((q : ℕ) → is_one_of q xs ≡ true → second q ≡ first q)
    → Rises cmp first xs → Rises cmp second xs
rises_agree cmp first second [] same rises = tt
rises_agree cmp first second (x ∷ xs) same rises = (
  all_more_at (is_before cmp first x) (is_before cmp second x) xs
      (λ y one before. let own = same x (one_first x xs) in let other = same y (or_right (nat_eq x y) (is_one_of y xs) one) in rw (own, other) before) rises.0,
  rises_agree cmp first second xs (λ q one. same q (or_right (nat_eq x q) (is_one_of q xs) one)) rises.1,
)

at_is : (place : ℕ) (found : Option ℕ) → is_at place found ≡ true → found ≡ Some place
at_is place None h = cc
at_is place (Some other) h = search_same other place h
  where
    search_same : (a b : ℕ) → nat_eq a b ≡ true → Some a ≡ Some b
    search_same a b e =
        elim (cases_eq a b) [
          | inl same ↦ ap Some same
          | inr differ ↦ let no : nat_eq a b ≡ false = ne_eqb a b differ in cc
        ]

one_drop : (i : ℕ) (xs : List ℕ) (q : ℕ) → is_one_of q (drop i xs) ≡ true → is_one_of q xs ≡ true
one_drop zero xs q one = one
one_drop (suc i) [] q one = cc
one_drop (suc i) (x ∷ xs) q one = or_right (nat_eq x q) (is_one_of q xs) (one_drop i xs q one)

pub one_found : (xs : List ℕ) (i n : ℕ) → slice_get xs i ≡ Some n → is_one_of n xs ≡ true
one_found [] i n at = cc
one_found (x ∷ xs) zero n at = let same : x ≡ n = cc in rw same (one_first n xs)
one_found (x ∷ xs) (suc i) n at = or_right (nat_eq x n) (is_one_of n xs) (one_found xs i n at)

and_true : (b : Bool) → (b && true) ≡ b
and_true true = refl
and_true false = refl

and_false : (b : Bool) → (b && false) ≡ false
and_false true = refl
and_false false = refl

module _ {R K : Type 0} (cmp : K → K → Ordering) (o : IsTotalOrder cmp) (key : R → K) (keeps : R → Bool) (place : ℕ) (before rows : List R) (xs : List ℕ)
    (index : IsIndex cmp key keeps before xs) (differs : DiffersAt key keeps place before rows) where
  keys_stay : (q : ℕ) → is_one_of q xs ≡ true → key_at key rows q ≡ key_at key before q
  keys_stay q one =
      elim (cases_eq q place) [
        | inl same ↦
            let kept : passes_at keeps before place ≡ true = rw same at (sym (index.members q) ∙ one) in
            rw same (differs.same_key kept)
        | inr other ↦ ap (option_map key) (differs.others q other)
      ]

  pub rises_now : Rises cmp (key_at key rows) xs
  rises_now = rises_agree cmp (key_at key before) (key_at key rows) xs keys_stay index.rising

  other_member : (q : ℕ) → q ≢ place → is_one_of q xs ≡ passes_at keeps rows q
  other_member q other = index.members q ∙ sym (ap (λ found. option_map_or keeps found false) (differs.others q other))

  -- the place is there already, or isn't, as it has to be
  pub filed_as_it_is : (kept : Bool) → passes_at keeps rows place ≡ kept → is_one_of place xs ≡ kept → IsIndex cmp key keeps rows xs
  filed_as_it_is kept now there =
      record {
        rising = rises_now;
        members = λ q.
            elim (cases_eq q place) [
              | inl same ↦ rw same (there ∙ sym now)
              | inr other ↦ other_member q other
            ];
      }

  module _ (at : ℕ) (split : IsSplit (λ other. is_before cmp (key_at key rows) other place) xs at) where
    pub found_if_there : is_one_of place xs ≡ true → slice_get xs at ≡ Some place
    found_if_there one = at_place cmp o (key_at key rows) xs at place rises_now split.front split.rest one

    none_if_not_found : is_at place (slice_get xs at) ≡ false → is_one_of place xs ≡ false
    none_if_not_found miss =
        false_from_ne_true (is_one_of place xs)
        (λ one. let hit : is_at place (slice_get xs at) ≡ true = rw (found_if_there one, eq-eqb place place refl) refl in cc)

    pub inserted : passes_at keeps rows place ≡ true → is_at place (slice_get xs at) ≡ false → IsIndex cmp key keeps rows (insert xs at place)
    inserted now miss =
        let none = none_if_not_found miss in
        let none_behind : is_one_of place (drop at xs) ≡ false =
        false_from_ne_true (is_one_of place (drop at xs)) (λ one. let there : is_one_of place xs ≡ true = one_drop at xs place one in cc) in
        record {
          rising =
              rises_insert cmp o (key_at key rows) xs at place rises_now split.front
              (rest_before cmp o (key_at key rows) (drop at xs) place split.rest none_behind);
          members = λ q.
              one_insert xs at place q
              ∙ elim (cases_eq place q) [
                | inl same ↦ rw (eq-eqb place q same, ← same) (sym now)
                | inr other ↦ rw (ne_eqb place q other) (other_member q (λ e. other (sym e)))
              ];
        }

    pub removed : passes_at keeps rows place ≡ false → is_at place (slice_get xs at) ≡ true → IsIndex cmp key keeps rows (remove xs at)
    removed now hit =
        let found : slice_get xs at ≡ Some place = at_is place (slice_get xs at) hit in
        record {
          rising = rises_remove cmp o (key_at key rows) xs at rises_now;
          members = λ q.
              one_remove cmp o (key_at key rows) xs at place q rises_now found
              ∙ elim (cases_eq place q) [
                | inl same ↦ rw (eq-eqb place q same, ← same) (and_false (is_one_of place xs) ∙ sym now)
                | inr other ↦ rw (ne_eqb place q other) (and_true (is_one_of q xs) ∙ other_member q (λ e. other (sym e)))
              ];
        }

    pub kept_there : passes_at keeps rows place ≡ true → is_at place (slice_get xs at) ≡ true → IsIndex cmp key keeps rows xs
    kept_there now hit = filed_as_it_is true now (one_found xs at place (at_is place (slice_get xs at) hit))

    pub kept_out : passes_at keeps rows place ≡ false → is_at place (slice_get xs at) ≡ false → IsIndex cmp key keeps rows xs
    kept_out now miss = filed_as_it_is false now (none_if_not_found miss)
