-- What is listed of a folder in memory is a listing of it.
use Rattle.gt_forest.proofs.MapLemmas.{name_cmp, same_name_from}
use Rattle.gt_forest.specs.Listing.{IsAfter, IsBefore, IsListing, kind_of, names_of}
use Rattle.gt_forest.specs.Rows.{Contents, IsIndexed, entry_of, later_entries, listed, start_of}
use Rattle.gt_forest.specs.declared.node.Node.{Node}
use Rattle.gt_paths.specs.Path.{PathValue, child_path}
use Rattle.std.proofs.Common.{All, Bool, Contains, Equal, Greater, IsSome, Less, List, None, Option, Ordering, Some, [], ap, arith, cond, drop, false, filter, inl, inr, is_eq, is_lt, length, length-drop, length-take, map, option_map, refl, subst, sym, suc, take, take-append-drop, true, true≢false, zero, ◌&&◌, ◌++◌, ◌∙◌, ◌∷◌, ◌≡◌, ◌≤◌, ◌<◌, ℕ}
use Rattle.std.proofs.lemmas.List.Elements.{All-contains, All-filter, All-from_recursion, All-map, All-take, All-weaker, Contains-append_cases, Contains-append_right, filter_passes}
use Rattle.std.proofs.lemmas.List.Kept.{IsStrictlySortedBy-filter}
use Rattle.std.proofs.lemmas.List.{length-map}
use Rattle.std.specs.BTreeMap.Range.{range_contains}
use Rattle.std.specs.declared.ops.Bound.TheVariants.{Unbounded}
use Rattle.std.specs.List.Sorted.{IsStrictlySortedBy}
use Rattle.std.specs.List.{AllByRecursion}
use Rattle.std.specs.Map.{keys_of}

front : {X : Type 0} (P : X → Type 0) (xs ys : List X) → AllByRecursion P (xs ++ ys) → AllByRecursion P xs
front P [] ys all = tt
front P (x ∷ xs) ys all = (all.0, front P xs ys all.1)

-- of a sorted list the front is sorted, and below each that follows
sorted_split : {K : Type 0} (c : K → K → Ordering) (xs ys : List K) → IsStrictlySortedBy c (xs ++ ys) → IsStrictlySortedBy c xs × ((y : K) → Contains ys y → AllByRecursion (λ x. c x y ≡ Less) xs)
unfolding IsStrictlySortedBy
sorted_split c [] ys sorted = (tt, λ y there. tt)
sorted_split c (x ∷ xs) ys sorted =
    let rest = sorted_split c xs ys sorted.1 in
    ((front (λ z. c x z ≡ Less) xs ys sorted.0, rest.0), λ y there. (All-contains (λ z. c x z ≡ Less) (xs ++ ys) y (All-from_recursion _ (xs ++ ys) sorted.0) (Contains-append_right xs ys y there), rest.1 y there))

is_less : (r : Ordering) → is_lt r && true ≡ true → r ≡ Less
is_less Less is = refl
is_less Equal is = absurd (true≢false (sym is))
is_less Greater is = absurd (true≢false (sym is))

is_equal : (r : Ordering) → is_eq r ≡ true → r ≡ Equal
is_equal Less is = absurd (true≢false (sym is))
is_equal Equal is = refl
is_equal Greater is = absurd (true≢false (sym is))

less_is : (r : Ordering) → r ≡ Less → is_lt r && true ≡ true
less_is r is = subst (λ q. is_lt q && true ≡ true) (sym is) refl

-- whether a name comes after that one
abbrev comes : Option (List ℕ) → List ℕ → Bool
comes after name = range_contains name_cmp (start_of after) Unbounded name

after_from : (after : Option (List ℕ)) (name : List ℕ) → comes after name ≡ true → IsAfter after name
after_from None name is = tt
after_from (Some earlier) name is = is_less (name_cmp earlier name) is

comes_from : (after : Option (List ℕ)) (name : List ℕ) → IsAfter after name → comes after name ≡ true
comes_from None name is = refl
comes_from (Some earlier) name is = less_is (name_cmp earlier name) is

names-listed : (es : Contents) → names_of (map listed es) ≡ keys_of es
names-listed [] = refl
names-listed (e ∷ es) = ap (λ rest. e.0 ∷ rest) (names-listed es)

keys-append : (xs ys : Contents) → keys_of (xs ++ ys) ≡ keys_of xs ++ keys_of ys
keys-append [] ys = refl
keys-append (x ∷ xs) ys = ap (λ rest. x.0 ∷ rest) (keys-append xs ys)

keys-filter : (p : List ℕ → Bool) (es : Contents) → keys_of (filter (λ e. p e.0) es) ≡ filter p (keys_of es)
keys-filter p [] = refl
keys-filter p (e ∷ es) = at (p e.0) (filter (λ e. p e.0) es) (filter p (keys_of es)) (keys-filter p es)
  where
    at : (b : Bool) (xs : Contents) (ys : List (List ℕ)) → keys_of xs ≡ ys → keys_of (cond b (e ∷ xs) xs) ≡ cond b (e.0 ∷ ys) ys
    at true xs ys is = ap (λ rest. e.0 ∷ rest) is
    at false xs ys is = is

-- a name that is found and passes is among those that pass
in_filter : (p : List ℕ → Bool) (name : List ℕ) (es : Contents) → IsSome (entry_of es name) → p name ≡ true → Contains (keys_of (filter (λ e. p e.0) es)) name
in_filter p name [] there passes = absurd (true≢false (sym there))
in_filter p name (e ∷ es) there passes = elim (is_eq (name_cmp name e.0)) as (λ b. is_eq (name_cmp name e.0) ≡ b → IsSome (cond b (Some e.1) (entry_of es name)) → Contains (keys_of (filter (λ e. p e.0) (e ∷ es))) name) [
  | true ↦ λ is found.
      let same : name ≡ e.0 = same_name_from name e.0 (is_equal (name_cmp name e.0) is) in
      subst (λ b. Contains (keys_of (cond b (e ∷ filter (λ e. p e.0) es) (filter (λ e. p e.0) es))) name) (sym (subst (λ n. p n ≡ true) same passes)) (0, omega arith, sym same)
  | false ↦ λ is found. later (p e.0) (filter (λ e. p e.0) es) (in_filter p name es found passes)
] refl there
  where
    later : (b : Bool) (xs : Contents) → Contains (keys_of xs) name → Contains (keys_of (cond b (e ∷ xs) xs)) name
    later true xs there = Contains-append_right (e.0 ∷ []) (keys_of xs) name there
    later false xs there = there

map-take : {X Y : Type 0} (f : X → Y) (n : ℕ) (xs : List X) → map f (take n xs) ≡ take n (map f xs)
map-take f zero xs = refl
map-take f (suc n) [] = refl
map-take f (suc n) (x ∷ xs) = ap (λ rest. f x ∷ rest) (map-take f n xs)

module _ (nodes : PathValue → Option Node) (folder : PathValue) (after : Option (List ℕ)) (limit : ℕ) (es : Contents)
    (child : (name : List ℕ) → nodes (child_path folder name) ≡ entry_of es name) (index : IsIndexed es) where
  -- the entries after the name, those that are shown, and those that are left out
  abbrev later : Contents
  later = later_entries after es

  abbrev shown : Contents
  shown = take limit later

  abbrev rest : Contents
  rest = drop limit later

  shown_names : names_of (take limit (map listed later)) ≡ keys_of shown
  shown_names = ap names_of (sym (map-take listed limit later)) ∙ names-listed shown

  split : keys_of later ≡ keys_of shown ++ keys_of rest
  split = ap keys_of (sym (take-append-drop limit later)) ∙ keys-append shown rest

  sorted : IsStrictlySortedBy name_cmp (keys_of shown) × ((y : List ℕ) → Contains (keys_of rest) y → AllByRecursion (λ x. name_cmp x y ≡ Less) (keys_of shown))
  sorted =
      let all = IsStrictlySortedBy-filter name_cmp (comes after) (keys_of es) index.rises in
      let later_sorted = subst (IsStrictlySortedBy name_cmp) (sym (keys-filter (comes after) es)) all in
      sorted_split name_cmp (keys_of shown) (keys_of rest) (subst (IsStrictlySortedBy name_cmp) split later_sorted)

  passing : All (IsAfter after) (keys_of shown)
  passing = All-map (IsAfter after) (λ (e : List ℕ × Node). e.0) shown
      (All-take (λ (e : List ℕ × Node). IsAfter after e.0) limit later (All-weaker (λ (e : List ℕ × Node). comes after e.0 ≡ true) (λ (e : List ℕ × Node). IsAfter after e.0) (λ e is. after_from after e.0 is) later (filter_passes (λ (e : List ℕ × Node). comes after e.0) es)))

  abbrev is_there : List ℕ × Node → Type 0
  is_there e = option_map kind_of (nodes (child_path folder e.0)) ≡ Some (kind_of e.1)

  each_there : All (λ entry. option_map kind_of (nodes (child_path folder entry.name)) ≡ Some entry.kind) (map listed shown)
  each_there = All-map (λ entry. option_map kind_of (nodes (child_path folder entry.name)) ≡ Some entry.kind) listed shown
      (All-take is_there limit later (All-filter (λ (e : List ℕ × Node). comes after e.0) is_there es (All-weaker (λ (e : List ℕ × Node). entry_of es e.0 ≡ Some e.1) is_there (λ e is. ap (option_map kind_of) (child e.0 ∙ is)) es index.each)))

  long : (name : List ℕ) → Contains (keys_of rest) name → length (take limit (map listed later)) ≡ limit
  long name out =
      let more : limit < length later = omega (arith, out.1, length-map rest (λ (e : List ℕ × Node). e.0), length-drop limit later) in
      omega (arith, length-take limit (map listed later), length-map later listed, more)

  few : length (take limit (map listed later)) ≤ limit
  few = omega (arith, length-take limit (map listed later))

  pub is_listing : IsListing nodes folder after limit (take limit (map listed later))
  is_listing = record {
    order = record {
      rises = subst (IsStrictlySortedBy name_cmp) (sym shown_names) sorted.0;
      later = subst (All (IsAfter after)) (sym shown_names) passing;
      few = few;
    };
    there = subst (All (λ entry. option_map kind_of (nodes (child_path folder entry.name)) ≡ Some entry.kind)) (map-take listed limit later) each_there;
    whole = λ name found comes_after.
        let among = in_filter (comes after) name es (subst IsSome (child name) found) (comes_from after name comes_after) in
        elim (Contains-append_cases (keys_of shown) (keys_of rest) name (subst (λ ks. Contains ks name) split among)) [
          | inl here ↦ inl (subst (λ ks. Contains ks name) (sym shown_names) here)
          | inr out ↦ inr (long name out, subst (All (λ listed. IsBefore listed name)) (sym shown_names) (All-from_recursion _ (keys_of shown) (sorted.1 name out)))
        ];
  }
