-- No path is at two resources.
use Rattle.std.proofs.Common.{◌≡◌, ◌≤◌, ℕ, zero, suc, List, [], ◌∷◌, length, ◌==◌, ◌&&◌, not, Bool, true, false, cond, Some, None, refl, sym, ap, ◌∙◌, subst, true≢false, arith}
use Rattle.std.proofs.lemmas.Bool.{eqb-true, eq-eqb}
use Rattle.matchit.specs.Rows.{param_token}
use Rattle.matchit.specs.Seek.{slash}
use Rattle.gt_requests.specs.Resources.{fits, pattern, is_at, find_resource, resources}
use Rattle.gt_requests.specs.declared.resource.Resource.{Resource}
use Rattle.gt_requests.proofs.ResourceLemmas.{At, listed}
use Rattle.gt_requests.proofs.SeekLemmas.{both_first, both_second, rest_at, short-rest, fits-inside, not-true, over-nil}
use Rattle.gt_requests.proofs.Shapes.{starts_piece, is_shaped}

-- no path fits both patterns
abbrev apart : List ℕ → List ℕ → Bool
apart [] [] = false
apart [] (y ∷ u) = true
apart (x ∷ t) [] = true
apart (x ∷ t) (y ∷ u) = cond (x == y) (apart t u) (cond (x == param_token) (y == slash) (cond (y == param_token) (x == slash) true))

abbrev ApartBelow : ℕ → Type 0
ApartBelow m = (t u p : List ℕ) → length p ≤ m → is_shaped t ≡ true → is_shaped u ≡ true → fits false t p ≡ true → fits false u p ≡ true → apart t u ≡ true → ⊥

abbrev fits_head : Bool → ℕ → List ℕ → ℕ → List ℕ → Bool
fits_head is x t b p = cond is (not (b == slash) && fits true t p) (x == b && fits false t p)

-- the two patterns begin with the same token
same-apart : (m : ℕ) → ApartBelow m → (x : ℕ) (t u : List ℕ) (b : ℕ) (p : List ℕ) (is : Bool) → (x == param_token) ≡ is → length p ≤ m → is_shaped (x ∷ t) ≡ true → is_shaped (x ∷ u) ≡ true
    → fits_head is x t b p ≡ true → fits_head is x u b p ≡ true → apart t u ≡ true → ⊥
same-apart m ih x t u b p true e l s r f g a =
    let param : x ≡ param_token = eqb-true x param_token e in
    let first : starts_piece t ≡ true = both_first (starts_piece t) (is_shaped t) (subst (λ y. is_shaped (y ∷ t) ≡ true) param s) in
    let second : starts_piece u ≡ true = both_first (starts_piece u) (is_shaped u) (subst (λ y. is_shaped (y ∷ u) ≡ true) param r) in
    let short : length (rest_at p) ≤ m = omega (arith, short-rest p) in
    ih t u (rest_at p) short (both_second _ _ (both_second _ _ s)) (both_second _ _ (both_second _ _ r))
    (sym (fits-inside t p first) ∙ both_second _ _ f) (sym (fits-inside u p second) ∙ both_second _ _ g) a
same-apart m ih x t u b p false e l s r f g a =
    ih t u p l (both_second _ _ (both_second _ _ s)) (both_second _ _ (both_second _ _ r)) (both_second _ _ f) (both_second _ _ g) a

-- they begin with two tokens
other-apart : (x : ℕ) (t : List ℕ) (y : ℕ) (u : List ℕ) (b : ℕ) (p : List ℕ) (is it : Bool) → (x == y) ≡ false → (x == param_token) ≡ is → (y == param_token) ≡ it
    → fits_head is x t b p ≡ true → fits_head it y u b p ≡ true → cond is (y == slash) (cond it (x == slash) true) ≡ true → ⊥
other-apart x t y u b p true true n e d f g a =
    let same : x ≡ y = eqb-true x param_token e ∙ sym (eqb-true y param_token d) in
    true≢false (sym (eq-eqb x y same) ∙ n)
other-apart x t y u b p true false n e d f g a =
    let same : b ≡ slash = sym (eqb-true y b (both_first _ _ g)) ∙ eqb-true y slash a in
    true≢false (sym (eq-eqb b slash same) ∙ not-true _ (both_first _ _ f))
other-apart x t y u b p false true n e d f g a =
    let same : b ≡ slash = sym (eqb-true x b (both_first _ _ f)) ∙ eqb-true x slash a in
    true≢false (sym (eq-eqb b slash same) ∙ not-true _ (both_first _ _ g))
other-apart x t y u b p false false n e d f g a =
    let same : x ≡ y = eqb-true x b (both_first _ _ f) ∙ sym (eqb-true y b (both_first _ _ g)) in
    true≢false (sym (eq-eqb x y same) ∙ n)

heads-apart : (m : ℕ) → ApartBelow m → (x : ℕ) (t : List ℕ) (y : ℕ) (u : List ℕ) (b : ℕ) (p : List ℕ) (same : Bool) → (x == y) ≡ same → length p ≤ m → is_shaped (x ∷ t) ≡ true → is_shaped (y ∷ u) ≡ true
    → fits false (x ∷ t) (b ∷ p) ≡ true → fits false (y ∷ u) (b ∷ p) ≡ true → cond same (apart t u) (cond (x == param_token) (y == slash) (cond (y == param_token) (x == slash) true)) ≡ true → ⊥
heads-apart m ih x t y u b p true e l s r f g a =
    let back : y ≡ x = sym (eqb-true x y e) in
    same-apart m ih x t u b p (x == param_token) refl l s (subst (λ z. is_shaped (z ∷ u) ≡ true) back r) f (subst (λ z. fits false (z ∷ u) (b ∷ p) ≡ true) back g) a
heads-apart m ih x t y u b p false e l s r f g a = other-apart x t y u b p (x == param_token) (y == param_token) e refl refl f g a

never-both : (m : ℕ) → ApartBelow m
never-both m t u [] l s r f g a = true≢false (sym a ∙ (ap (λ v. apart v u) (over-nil t f) ∙ ap (apart []) (over-nil u g)))
never-both zero t u (b ∷ p) l s r f g a = absurd (omega arith)
never-both (suc m) [] u (b ∷ p) l s r f g a = true≢false (sym f)
never-both (suc m) (x ∷ t) [] (b ∷ p) l s r f g a = true≢false (sym g)
never-both (suc m) (x ∷ t) (y ∷ u) (b ∷ p) l s r f g a = heads-apart m (never-both m) x t y u b p (x == y) refl (omega arith) s r f g a

-- ---- the resources

abbrev apart_from : Resource → List Resource → Bool
apart_from p [] = true
apart_from p (q ∷ qs) = apart (pattern p) (pattern q) && apart_from p qs

abbrev all_apart : List Resource → Bool
all_apart [] = true
all_apart (p ∷ ps) = is_shaped (pattern p) && (apart_from p ps && all_apart ps)

apart_at : (p q : Resource) (qs : List Resource) (i : ℕ) → At q qs i → apart_from p qs ≡ true → apart (pattern p) (pattern q) ≡ true
apart_at p q [] i w h = absurd w
apart_at p q (x ∷ qs) zero w h = subst (λ y. apart (pattern p) (pattern y) ≡ true) w (both_first _ _ h)
apart_at p q (x ∷ qs) (suc i) w h = apart_at p q qs i w (both_second _ _ h)

shaped_at : (q : Resource) (qs : List Resource) (i : ℕ) → At q qs i → all_apart qs ≡ true → is_shaped (pattern q) ≡ true
shaped_at q [] i w h = absurd w
shaped_at q (x ∷ qs) zero w h = subst (λ y. is_shaped (pattern y) ≡ true) w (both_first _ _ h)
shaped_at q (x ∷ qs) (suc i) w h = shaped_at q qs i w (both_second _ _ (both_second _ _ h))

find-at : (p q : Resource) (qs : List Resource) (path : List ℕ) (v : Bool) → is_at q path ≡ v → (v ≡ true → ⊥) → find_resource qs path ≡ Some p → cond v (Some q) (find_resource qs path) ≡ Some p
find-at p q qs path true e n h = absurd (n refl)
find-at p q qs path false e n h = h

found_resource : (p : Resource) (ps : List Resource) (i : ℕ) (path : List ℕ) → At p ps i → all_apart ps ≡ true → is_at p path ≡ true → find_resource ps path ≡ Some p
found_resource p [] i path w h f = absurd w
found_resource p (q ∷ qs) zero path w h f = let here : is_at q path ≡ true = subst (λ y. is_at y path ≡ true) (sym w) f in rw here (ap Some w)
found_resource p (q ∷ qs) (suc i) path w h f =
    let rest = both_second _ _ (both_second _ _ h) in
    let away = apart_at q p qs i w (both_first _ _ (both_second _ _ h)) in
    find-at p q qs path (is_at q path) refl (λ g. never-both (length path) (pattern q) (pattern p) path (omega arith) (both_first _ _ h) (shaped_at p qs i w rest) g f away)
    (found_resource p qs i path w rest f)

pub no_resource : (ps : List Resource) (path : List ℕ) → ((p : Resource) → is_at p path ≡ false) → find_resource ps path ≡ None
no_resource [] path h = refl
no_resource (p ∷ ps) path h = rw (h p) (no_resource ps path h)

resources_apart : all_apart resources ≡ true
resources_apart = refl

pub the_resource : (p : Resource) (path : List ℕ) → is_at p path ≡ true → find_resource resources path ≡ Some p
the_resource p path f = found_resource p resources (listed p).0 path (listed p).1 resources_apart f
