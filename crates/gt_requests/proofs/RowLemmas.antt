-- The rows of the router: each resource's pattern and no other.
use Rattle.std.proofs.Common.{zero, suc, get_or, Fits, w8, arith, ◌≡◌, ◌⊎◌, inl, inr, ◌<◌, ◌||◌, Option, Some, None, Result, Ok, Err, is_none, subst, ℕ, List, [], ◌∷◌, ◌&&◌, Bool, true, false, refl, sym, true≢false, nat_eq}
use Rattle.std.specs.Cmp.Lexicographic.{pointwise, bytes_decides}
use Rattle.std.specs.List.{AllByRecursion}
use Rattle.matchit.specs.Seek.{first}
use Rattle.matchit.specs.Route.{Scan}
use Rattle.matchit.specs.Router.{InsertsRead, RouteOf, nearest}
use Rattle.matchit.specs.declared.error.InsertError.{InsertError}
use Rattle.matchit.specs.declared.error.InsertError.TheVariants as insert
use Rattle.matchit.proofs.OnLiterals.{matchit_on_literals}
use Rattle.gt_requests.specs.Resources.{fits, is_at, pattern, resources}
use Rattle.gt_requests.specs.Router.{Rows, are_apart, table, table_from, takes}
use Rattle.gt_requests.specs.declared.resource.TheConstants.{RESOURCES}
use Rattle.gt_requests.specs.declared.resource.Resource.{Resource}
use Rattle.gt_requests.proofs.ResourceLemmas.{At, listed}
use Rattle.gt_requests.proofs.SeekLemmas.{both_first, both_second, In, AllShaped, first-fits, first-none}
use Rattle.gt_requests.proofs.Shapes.{is_shaped}

abbrev rows_are : Rows → Bool
rows_are [] = true
rows_are ((t, r) ∷ rest) = pointwise nat_eq t (pattern r.value) && (is_shaped t && rows_are rest)

table_rows : rows_are table ≡ true
unfolding matchit_on_literals table_from
table_rows = refl

in_rows : (rs : Rows) → rows_are rs ≡ true → (t : List ℕ) (r : RouteOf Resource) → In t r rs → (t ≡ pattern r.value) × (is_shaped t ≡ true)
in_rows [] h t r w = absurd w
in_rows ((u, q) ∷ rest) h t r (inl w) =
    let same : u ≡ pattern q.value = (bytes_decides u (pattern q.value)).0 (both_first _ _ h) in
    let shaped : is_shaped u ≡ true = both_first _ _ (both_second _ _ h) in
    (cc (same, w.0, w.1), subst (λ y. is_shaped y ≡ true) w.0 shaped)
in_rows ((u, q) ∷ rest) h t r (inr w) = in_rows rest (both_second _ _ (both_second _ _ h)) t r w

pub table_shaped : AllShaped table
table_shaped t r w = (in_rows table table_rows t r w).1

abbrev has_row : List ℕ → Rows → Bool
has_row t [] = false
has_row t ((u, r) ∷ rest) = pointwise nat_eq u t || has_row t rest

either : (a b : Bool) → (a || b) ≡ true → (a ≡ true) ⊎ (b ≡ true)
either true b h = inl refl
either false b h = inr h

row_in : (t : List ℕ) (rs : Rows) → has_row t rs ≡ true → (r : RouteOf Resource) × In t r rs
row_in t [] h = absurd (true≢false (sym h))
row_in t ((u, r) ∷ rest) h =
    elim (either _ _ h) [
      | inl e ↦ (r, inl ((bytes_decides u t).0 e, refl))
      | inr e ↦ (let more = row_in t rest e in (more.0, inr more.1))
    ]

-- each resource has a row
abbrev all_rows : List Resource → Rows → Bool
all_rows [] rs = true
all_rows (p ∷ ps) rs = has_row (pattern p) rs && all_rows ps rs

resource_rows : all_rows resources table ≡ true
unfolding matchit_on_literals table_from
resource_rows = refl

has_at : (p : Resource) (ps : List Resource) (rs : Rows) (i : ℕ) → At p ps i → all_rows ps rs ≡ true → has_row (pattern p) rs ≡ true
has_at p [] rs i w h = absurd w
has_at p (q ∷ qs) rs zero w h = subst (λ y. has_row (pattern y) rs ≡ true) w (both_first _ _ h)
has_at p (q ∷ qs) rs (suc i) w h = has_at p qs rs i w (both_second _ _ h)

-- the route that is found is that of a resource which the path is at
pub found_is_at : (path : List ℕ) (r : RouteOf Resource) → AllByRecursion (λ b. b < 256) path → first table path ≡ Some r → is_at r.value path ≡ true
found_is_at path r a e =
    let got = first-fits table path r table_shaped a e in
    let same : got.0 ≡ pattern r.value = (in_rows table table_rows got.0 r got.1).0 in
    subst (λ y. fits false y path ≡ true) same got.2

-- where none is found the path is at no resource
pub none_is_at : (path : List ℕ) → first table path ≡ None → (p : Resource) → is_at p path ≡ false
none_is_at path e p =
    let has = has_at p resources table (listed p).0 (listed p).1 resource_rows in
    let row = row_in (pattern p) table has in
    first-none table path table_shaped e (pattern p) row.0 row.1

-- the code's resources are all of them, and their routes are apart
pub all_apart : are_apart RESOURCES [] ≡ true
unfolding matchit_on_literals table_from are_apart
all_apart = refl

pub all_routes : table_from RESOURCES [] ≡ table
all_routes = refl

no_row : (o : Option (RouteOf Resource)) (r : RouteOf Resource) → is_none o ≡ true → o ≡ Some r → ⊥
no_row None r h e = absurd (cc e)
no_row (Some q) r h e = absurd (true≢false (sym h))

-- for a route that is apart from the rows only memory can be wanting
pub only_memory : (x : Result Scan InsertError) (r : Resource) (old new : Rows) (e : InsertError) → takes old x ≡ true → InsertsRead x r old new (Err e)
    → e ≡ insert.OutOfMemory
only_memory (Err f) r old new e h w = absurd (true≢false (sym h))
only_memory (Ok s) r old new insert.OutOfMemory h w = refl
only_memory (Ok s) r old new (insert.Conflict with) h w = absurd (no_row (nearest s.pattern old) w.1.0 h w.1.1)
only_memory (Ok s) r old new insert.InvalidParamSegment h w = absurd w.1
only_memory (Ok s) r old new insert.InvalidParam h w = absurd w.1
only_memory (Ok s) r old new insert.InvalidCatchAll h w = absurd w.1

pub bytes_of_text : (path : List ℕ) → ((i : ℕ) → Fits w8 (get_or path i 0)) → AllByRecursion (λ b. b < 256) path
bytes_of_text [] h = tt
bytes_of_text (b ∷ path) h = let here : Fits w8 b = h 0 in (omega arith, bytes_of_text path (λ i. h (suc i)))
