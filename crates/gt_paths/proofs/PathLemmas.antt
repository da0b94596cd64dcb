-- Lists of names: prefixes, and the bytes that they print.
use Rattle.std.proofs.Common.{◌≡◌, ◌↔◌, ℕ, ◌≤◌, ◌<◌, ◌+◌, List, [], ◌∷◌, ◌++◌, length, get_or, take, drop, true, ◌&&◌, refl, sym, ◌∙◌, ap, subst, arith, append_assoc, length-append, length-drop, ◌-◌, IsTrue}
use Rattle.std.specs.Str.{bytes_eq}
use Rattle.std.specs.Cmp.Lexicographic.{pointwise, bytes_decides}
use Rattle.std.specs.List.{list_all}
use Rattle.std.proofs.lemmas.Bool.{and_parts, and_from, true≢false, leb-true, le-leb}
use Rattle.std.proofs.lemmas.List.{append-nil, take_all, take_more, take-append-drop}
use Rattle.std.specs.Prelude.{nat_le}
use Rattle.gt_paths.specs.Name.{is_name}
use Rattle.gt_paths.specs.Path.{PathValue, IsUnder, is_under, below, slashed, printed_path, printed_len, is_path, is_short_path}

-- the test of a prefix, as std says it and as the crate says it
pub starts_with-is_under : (path folder : PathValue) → pointwise bytes_eq folder (take (length folder) path) ≡ is_under path folder
starts_with-is_under path [] = refl
starts_with-is_under [] (f ∷ fs) = refl
starts_with-is_under (n ∷ ns) (f ∷ fs) = ap (λ b. bytes_eq f n && b) (starts_with-is_under ns fs)

-- where the test holds, the path is the folder and what is below it
pub below-is_under : (path folder : PathValue) → is_under path folder ≡ true → folder ++ below path folder ≡ path
below-is_under path [] h = refl
below-is_under [] (f ∷ fs) h = absurd (true≢false (sym h))
below-is_under (n ∷ ns) (f ∷ fs) h =
    let both = and_parts (bytes_eq f n) (is_under ns fs) h in
    ap (λ x. x ∷ (fs ++ below ns fs)) ((bytes_decides f n).0 both.0) ∙ ap (λ l. n ∷ l) (below-is_under ns fs both.1)

-- a list is under its front
pub is_under-append : (folder rest : PathValue) → is_under (folder ++ rest) folder ≡ true
is_under-append [] rest = refl
is_under-append (f ∷ fs) rest = and_from _ _ ((bytes_decides f f).1 refl) (is_under-append fs rest)

pub is_under-says : (path folder : PathValue) → IsTrue (is_under path folder) ↔ IsUnder path folder
is_under-says path folder = (
  λ h. (below path folder, below-is_under path folder h),
  λ under. subst (λ p. is_under p folder ≡ true) under.1 (is_under-append folder under.0),
)

-- what is below a folder is the rest of the list
pub below-drop : (path folder : PathValue) → is_under path folder ≡ true → below path folder ≡ drop (length folder) path
below-drop path [] h = refl
below-drop [] (f ∷ fs) h = refl
below-drop (n ∷ ns) (f ∷ fs) h = below-drop ns fs (and_parts (bytes_eq f n) (is_under ns fs) h).1

pub length-is_under : (path folder : PathValue) → is_under path folder ≡ true → length folder ≤ length path
length-is_under path folder h =
    let e : length folder + length (below path folder) ≡ length path = sym (length-append folder (below path folder)) ∙ ap length (below-is_under path folder h) in
    omega arith

pub slashed-append : (a b : PathValue) → slashed (a ++ b) ≡ slashed a ++ slashed b
slashed-append [] b = refl
slashed-append (n ∷ ns) b = ap (λ l. (47 ∷ n) ++ l) (slashed-append ns b) ∙ sym (append_assoc (47 ∷ n) (slashed ns) (slashed b))

pub length-slashed-append : (a b : PathValue) → length (slashed (a ++ b)) ≡ length (slashed a) + length (slashed b)
length-slashed-append a b = ap length (slashed-append a b) ∙ length-append (slashed a) (slashed b)

pub length-slashed-push : (a : PathValue) (name : List ℕ) → length (slashed (a ++ name ∷ [])) ≡ length (slashed a) + length name + 1
length-slashed-push a name =
    omega (arith, length-slashed-append a (name ∷ []), length-append (47 ∷ name) [])

-- each name prints a slash at least
pub length-le-slashed : (a : PathValue) → length a ≤ length (slashed a)
length-le-slashed [] = omega arith
length-le-slashed (n ∷ ns) =
    let rest : length ns ≤ length (slashed ns) = length-le-slashed ns in
    simp length-append (omega arith)

-- one name more of those that a loop goes over
pub take_pushed : (path : PathValue) (i : ℕ) (name : List ℕ) → i < length path → name ≡ get_or path i name → take (i + 1) path ≡ take i path ++ name ∷ []
take_pushed path i name h e = take_more path i name h ∙ ap (λ n. take i path ++ n ∷ []) (sym e)

pub length-slashed-take_pushed : (path : PathValue) (i : ℕ) (name : List ℕ) → i < length path → name ≡ get_or path i name
    → length (slashed (take (i + 1) path)) ≡ length (slashed (take i path)) + length name + 1
length-slashed-take_pushed path i name h e = ap (λ l. length (slashed l)) (take_pushed path i name h e) ∙ length-slashed-push (take i path) name

-- the same behind other names
pub joined-take_pushed : (names path : PathValue) (i : ℕ) (name shown : List ℕ) → shown ≡ name → i < length path → name ≡ get_or path i name
    → (names ++ take i path) ++ shown ∷ [] ≡ names ++ take (i + 1) path
joined-take_pushed names path i name shown same h e =
    append_assoc names (take i path) (shown ∷ [])
    ∙ ap (λ n. names ++ (take i path ++ n ∷ [])) same ∙ ap (λ l. names ++ l) (sym (take_pushed path i name h e))

pub length-take_pushed : (path : PathValue) (i : ℕ) (name : List ℕ) → i < length path → name ≡ get_or path i name → length (take (i + 1) path) ≡ length (take i path) + 1
length-take_pushed path i name h e = ap length (take_pushed path i name h e) ∙ length-append (take i path) (name ∷ [])

-- what a loop writes for one name more
pub slashed-take_pushed : (path : PathValue) (i : ℕ) (name : List ℕ) → i < length path → name ≡ get_or path i name
    → (slashed (take i path) ++ 47 ∷ []) ++ name ≡ slashed (take (i + 1) path)
slashed-take_pushed path i name h e =
    append_assoc (slashed (take i path)) (47 ∷ []) name
    ∙ ap (λ l. slashed (take i path) ++ l) (sym (append-nil (47 ∷ name)))
    ∙ sym (slashed-append (take i path) (name ∷ [])) ∙ ap slashed (sym (take_pushed path i name h e))

-- a path with names prints them alone
pub printed_path-slashed : (path : PathValue) → (length path ≡ 0 → ⊥) → printed_path path ≡ slashed path
printed_path-slashed [] h = absurd (h refl)
printed_path-slashed (n ∷ ns) h = refl

-- the front of a path prints no more than the path
pub length-slashed-take_le : (path : PathValue) (i : ℕ) → length (slashed (take i path)) ≤ length (slashed path)
length-slashed-take_le path i =
    let whole : length (slashed (take i path ++ drop i path)) ≡ length (slashed path) = ap (λ l. length (slashed l)) (take-append-drop i path) in
    omega (arith, whole, length-slashed-append (take i path) (drop i path))

-- what is below a folder prints no more than the path
pub length-slashed-below_le : (path folder : PathValue) → is_under path folder ≡ true → length (slashed (below path folder)) ≤ length (slashed path)
length-slashed-below_le path folder h =
    let whole : length (slashed (folder ++ below path folder)) ≡ length (slashed path) = ap (λ l. length (slashed l)) (below-is_under path folder h) in
    omega (arith, whole, length-slashed-append folder (below path folder))

-- the part of the names that is below a folder, as a slice gives it
pub part-below : (names path folder : PathValue) (n : ℕ) → names ≡ path → n ≡ length folder → is_under path folder ≡ true
    → take (length names - n) (drop n names) ≡ below path folder
part-below names path folder n same from h =
    let shorter : length (drop n names) ≤ length names - n = omega (arith, length-drop n names) in
    take_all (length names - n) (drop n names) shorter
    ∙ ap (λ l. drop n l) same ∙ ap (λ k. drop k path) from ∙ sym (below-drop path folder h)

-- what a path within its limits prints
pub slashed-path : (path : PathValue) → is_path path ≡ true → (length path ≤ 64) × (length (slashed path) ≤ 4096)
slashed-path path h =
    let short = and_parts (nat_le (length path) 64) (nat_le (printed_len path) 4096) (and_parts (list_all is_name path) (is_short_path path) h).1 in
    (leb-true (length path) 64 short.0, printed path (leb-true (printed_len path) 4096 short.1))
  where
    printed : (p : PathValue) → printed_len p ≤ 4096 → length (slashed p) ≤ 4096
    printed [] l = omega arith
    printed (n ∷ ns) l = l

-- names within the limits are a path
pub is_path-names : (names : PathValue) → list_all is_name names ≡ true → length names ≤ 64 → length (slashed names) ≤ 4096 → is_path names ≡ true
is_path-names names all few small = and_from _ _ all (and_from _ _ (le-leb (length names) 64 few) (le-leb (printed_len names) 4096 (printed names small)))
  where
    printed : (p : PathValue) → length (slashed p) ≤ 4096 → printed_len p ≤ 4096
    printed [] l = omega arith
    printed (n ∷ ns) l = l
