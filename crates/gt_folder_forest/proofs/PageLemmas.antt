-- A page of a listing, as far as it has come: the names given and those to come rise, and come after the name before.
use Rattle.gt_forest.specs.Listing.{IsAfter, IsInOrder, names_of}
use Rattle.gt_forest.specs.Rows.{start_of}
use Rattle.gt_types.specs.declared.listing.Entry.{Entry}
use Rattle.std.proofs.Common.{Bool, Equal, Greater, Less, List, None, Option, Ordering, Some, [], ap, append_assoc, arith, cond, false, filter, inl, inr, is_lt, length, length-append, nat_cmp, refl, subst, sym, true, true≢false, ◌&&◌, ◌++◌, ◌∷◌, ◌≡◌, ◌≤◌, ◌<◌, ◌⊎◌, ℕ}
use Rattle.std.proofs.lemmas.List.Elements.{All-from_recursion}
use Rattle.std.proofs.lemmas.List.Kept.{IsStrictlySortedBy-filter}
use Rattle.std.proofs.lemmas.List.{length-map, map-append}
use Rattle.std.specs.BTreeMap.Range.{entries_between, range_contains}
use Rattle.std.specs.Cmp.Lexicographic.{slice_cmp}
use Rattle.std.specs.declared.ops.Bound.{Bound}
use Rattle.std.specs.declared.ops.Bound.TheVariants.{Unbounded}
use Rattle.std.specs.List.Sorted.{IsStrictlySortedBy}
use Rattle.std.specs.List.{AllByRecursion}
use Rattle.std.specs.Map.{keys_of}

abbrev pub name_cmp : List ℕ → List ℕ → Ordering
name_cmp = slice_cmp nat_cmp

-- names that rise and come after that one
pub record IsRow (after : Option (List ℕ)) (names : List (List ℕ)) : Type 0 where
  pub rises : IsStrictlySortedBy name_cmp names
  pub later : AllByRecursion (IsAfter after) names

front : {X : Type 0} (P : X → Type 0) (xs ys : List X) → AllByRecursion P (xs ++ ys) → AllByRecursion P xs
front P [] ys all = tt
front P (x ∷ xs) ys all = (all.0, front P xs ys all.1)

without : {X : Type 0} (P : X → Type 0) (xs : List X) (y : X) (ys : List X) → AllByRecursion P (xs ++ y ∷ ys) → AllByRecursion P (xs ++ ys)
without P [] y ys all = all.1
without P (x ∷ xs) y ys all = (all.0, without P xs y ys all.1)

front_rises : {K : Type 0} (c : K → K → Ordering) (xs ys : List K) → IsStrictlySortedBy c (xs ++ ys) → IsStrictlySortedBy c xs
unfolding IsStrictlySortedBy
front_rises c [] ys sorted = tt
front_rises c (x ∷ xs) ys sorted = (front (λ y. c x y ≡ Less) xs ys sorted.0, front_rises c xs ys sorted.1)

without_rises : {K : Type 0} (c : K → K → Ordering) (xs : List K) (y : K) (ys : List K) → IsStrictlySortedBy c (xs ++ y ∷ ys) → IsStrictlySortedBy c (xs ++ ys)
unfolding IsStrictlySortedBy
without_rises c [] y ys sorted = sorted.1
without_rises c (x ∷ xs) y ys sorted = (without (λ z. c x z ≡ Less) xs y ys sorted.0, without_rises c xs y ys sorted.1)

-- a name is passed over
pub passed : (after : Option (List ℕ)) (given : List (List ℕ)) (name : List ℕ) (rest : List (List ℕ)) → IsRow after (given ++ name ∷ rest) → IsRow after (given ++ rest)
passed after given name rest row = record {
  rises = without_rises name_cmp given name rest row.rises;
  later = without (IsAfter after) given name rest row.later;
}

-- a name is given
pub given_next : (after : Option (List ℕ)) (given : List (List ℕ)) (name : List ℕ) (rest : List (List ℕ)) → IsRow after (given ++ name ∷ rest) → IsRow after ((given ++ name ∷ []) ++ rest)
given_next after given name rest row = subst (IsRow after) (sym (append_assoc given (name ∷ []) rest)) row

-- what was given is a page
pub page_of : (after : Option (List ℕ)) (limit : ℕ) (entries : List Entry) (rest : List (List ℕ)) → length entries ≤ limit → IsRow after (names_of entries ++ rest) → IsInOrder after limit entries
page_of after limit entries rest few row = record {
  rises = front_rises name_cmp (names_of entries) rest row.rises;
  later = All-from_recursion (IsAfter after) (names_of entries) (front (IsAfter after) (names_of entries) rest row.later);
  few = few;
}

is_less : (r : Ordering) → is_lt r && true ≡ true → r ≡ Less
is_less Less is = refl
is_less Equal is = absurd (true≢false (sym is))
is_less Greater is = absurd (true≢false (sym is))

-- whether a name comes after that one
abbrev comes : Option (List ℕ) → List ℕ → Bool
comes after name = range_contains name_cmp (start_of after) Unbounded name

after_from : (after : Option (List ℕ)) (name : List ℕ) → comes after name ≡ true → IsAfter after name
after_from None name is = tt
after_from (Some earlier) name is = is_less (name_cmp earlier name) is

keys-filter : {V : Type 0} (p : List ℕ → Bool) (es : List (List ℕ × V)) → keys_of (filter (λ e. p e.0) es) ≡ filter p (keys_of es)
keys-filter p [] = refl
keys-filter {V} p (e ∷ es) = at (p e.0) (filter (λ e. p e.0) es) (filter p (keys_of es)) (keys-filter p es)
  where
    at : (b : Bool) (xs : List (List ℕ × V)) (ys : List (List ℕ)) → keys_of xs ≡ ys → keys_of (cond b (e ∷ xs) xs) ≡ cond b (e.0 ∷ ys) ys
    at true xs ys is = ap (λ rest. e.0 ∷ rest) is
    at false xs ys is = is

all_later : (after : Option (List ℕ)) (names : List (List ℕ)) → AllByRecursion (IsAfter after) (filter (comes after) names)
all_later after [] = tt
all_later after (name ∷ names) = at (comes after name) refl (all_later after names)
  where
    at : (b : Bool) → comes after name ≡ b → AllByRecursion (IsAfter after) (filter (comes after) names) → AllByRecursion (IsAfter after) (cond b (name ∷ filter (comes after) names) (filter (comes after) names))
    at true is rest = (after_from after name is, rest)
    at false is rest = rest

-- of the names of a map, those after that one
pub row_of : {V : Type 0} (after : Option (List ℕ)) (es : List (List ℕ × V)) → IsStrictlySortedBy name_cmp (keys_of es) → IsRow after (keys_of (entries_between name_cmp (start_of after) Unbounded es))
row_of after es sorted = subst (IsRow after) (sym (keys-filter (comes after) es)) (record {
  rises = IsStrictlySortedBy-filter name_cmp (comes after) (keys_of es) sorted;
  later = all_later after (keys_of es);
})

-- where a page begins
pub row_start : {V : Type 0} (after : Option (List ℕ)) (start : Bound (List ℕ)) (es items : List (List ℕ × V)) (entries : List Entry) → start ≡ start_of after → items ≡ entries_between name_cmp start Unbounded es → IsStrictlySortedBy name_cmp (keys_of es) → entries ≡ [] → IsRow after (names_of entries ++ keys_of items)
row_start after start es items entries begins between sorted none =
    subst (λ given. IsRow after (names_of given ++ keys_of items)) (sym none)
    (subst (λ shown. IsRow after (keys_of shown)) (sym between)
    (subst (λ bound. IsRow after (keys_of (entries_between name_cmp bound Unbounded es))) (sym begins) (row_of after es sorted)))

-- the next name is passed over or given
pub row_step : {V : Type 0} (after : Option (List ℕ)) (old new : List Entry) (name : List ℕ) (value : V) (s t : List (List ℕ × V)) → s ≡ (name, value) ∷ t → (new ≡ old) ⊎ (names_of new ≡ names_of old ++ name ∷ []) → IsRow after (names_of old ++ keys_of s) → IsRow after (names_of new ++ keys_of t)
row_step after old new name value s t is (inl same) row =
    subst (λ given. IsRow after (names_of given ++ keys_of t)) (sym same)
    (passed after (names_of old) name (keys_of t) (subst (λ shown. IsRow after (names_of old ++ keys_of shown)) is row))
row_step after old new name value s t is (inr more) row =
    subst (λ names. IsRow after (names ++ keys_of t)) (sym more)
    (given_next after (names_of old) name (keys_of t) (subst (λ shown. IsRow after (names_of old ++ keys_of shown)) is row))

pub few_step : (limit : ℕ) (old new : List Entry) (name : List ℕ) → length old < limit → (new ≡ old) ⊎ (names_of new ≡ names_of old ++ name ∷ []) → length new ≤ limit
few_step limit old new name few (inl same) = omega (arith, ap length same)
few_step limit old new name few (inr more) = omega (arith, few, ap length more, length-map new (λ (e : Entry). e.name), length-map old (λ (e : Entry). e.name), length-append (names_of old) (name ∷ []))

pub names-push : (entries : List Entry) (entry : Entry) → names_of (entries ++ entry ∷ []) ≡ names_of entries ++ entry.name ∷ []
names-push entries entry = map-append (λ (e : Entry). e.name) entries (entry ∷ [])
