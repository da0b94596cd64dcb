-- The two forms of what a name is say the same.
use Rattle.std.proofs.Common.{◌≡◌, ◌⊎◌, inl, inr, ℕ, List, [], ◌∷◌, length, Bool, true, false, not, ◌&&◌, ◌||◌, refl, sym, ◌∙◌, ap, subst}
use Rattle.std.proofs.lemmas.Str.{is_utf8-from_IsUtf8}
use Rattle.std.specs.Prelude.{Contains, IsUtf8, nat_le, ◌==◌}
use Rattle.std.specs.List.{list_any}
use Rattle.std.specs.Str.{bytes_eq, is_utf8}
use Rattle.std.specs.Cmp.Lexicographic.{bytes_decides}
use Rattle.std.proofs.lemmas.Bool.{and_parts, and_from, true≢false, not-true, or_cases, eqb-true, leb-true, le-leb}
use Rattle.std.proofs.lemmas.List.Folds.{list_any_at, Any-from_list_any}
use Rattle.gt_paths.specs.Name.{IsName, is_name, is_reserved, is_separator}

-- a test that is not true
not_from : (x : Bool) → (x ≡ true → ⊥) → not x ≡ true
not_from true n = absurd (n refl)
not_from false n = refl

no_from : (x : Bool) → x ≡ false → x ≡ true → ⊥
no_from x f t = true≢false (sym t ∙ f)

-- a name with a byte that ends names has a separator
has_separator : (name : List ℕ) (byte : ℕ) → is_separator byte ≡ true → Contains name byte → list_any is_separator name ≡ true
has_separator name byte h there = list_any_at is_separator name there.0 byte there.1 (ap is_separator there.2 ∙ h)

-- a separator is one of the two bytes
has_byte : (name : List ℕ) → list_any is_separator name ≡ true → Contains name 47 ⊎ Contains name 0
has_byte name h =
    let a = Any-from_list_any is_separator name h in
    elim (or_cases (a.1 == 47) (a.1 == 0) a.4) [
      | inl e ↦ inl (subst (Contains name) (eqb-true a.1 47 e) (a.0, a.2, a.3))
      | inr e ↦ inr (subst (Contains name) (eqb-true a.1 0 e) (a.0, a.2, a.3))
    ]

-- without the two bytes there is no separator
no_separator : (name : List ℕ) → ¬ Contains name 47 → ¬ Contains name 0 → list_any is_separator name ≡ true → ⊥
no_separator name no_slash no_zero h = elim (has_byte name h) [ inl c ↦ no_slash c | inr c ↦ no_zero c ]

pub IsName-from_test : (name : List ℕ) → is_name name ≡ true → IsName name
IsName-from_test name h =
    let a = and_parts _ (not (is_reserved name)) h in
    let b = and_parts _ (not (list_any is_separator name)) a.0 in
    let c = and_parts _ (is_utf8 name) b.0 in
    let d = and_parts (nat_le 1 (length name)) (nat_le (length name) 255) c.0 in
    let plain : list_any is_separator name ≡ false = not-true (list_any is_separator name) b.1 in
    let free : is_reserved name ≡ false = not-true (is_reserved name) a.1 in
    record {
      some = leb-true 1 (length name) d.0;
      bounded = leb-true (length name) 255 d.1;
      text = c.1;
      no_slash = λ there. no_from _ plain (has_separator name 47 refl there);
      no_zero = λ there. no_from _ plain (has_separator name 0 refl there);
      dot = λ e. no_from _ free (ap is_reserved e);
      dots = λ e. no_from _ free (ap is_reserved e);
      home = λ e. no_from _ free (ap is_reserved e);
    }

pub is_name-from_IsName : (name : List ℕ) → IsName name → is_name name ≡ true
is_name-from_IsName name is =
    and_from _ _
    (and_from _ _
    (and_from _ _ (and_from _ _ (le-leb 1 (length name) is.some) (le-leb (length name) 255 is.bounded)) is.text)
    (not_from _ (no_separator name is.no_slash is.no_zero)))
    (not_from _ (λ h. elim (or_cases (bytes_eq name (46 ∷ []) || bytes_eq name (46 ∷ 46 ∷ [])) (bytes_eq name (126 ∷ [])) h) [
      | inl e ↦ elim (or_cases (bytes_eq name (46 ∷ [])) (bytes_eq name (46 ∷ 46 ∷ [])) e) [
        | inl f ↦ is.dot ((bytes_decides name (46 ∷ [])).0 f)
        | inr f ↦ is.dots ((bytes_decides name (46 ∷ 46 ∷ [])).0 f)
      ]
      | inr e ↦ is.home ((bytes_decides name (126 ∷ [])).0 e)
    ]))

-- of a text that is sized and has no separator, the last part of the test decides
pub is_name-text : (text : List ℕ) → IsUtf8 text → (nat_le 1 (length text) && nat_le (length text) 255) ≡ true
    → list_any is_separator text ≡ false → not (is_reserved text) ≡ is_name text
is_name-text text utf8 sized plain =
    let is_text = is_utf8-from_IsUtf8 text utf8 in
    λ i. sym sized i && sym is_text i && not (sym plain i) && not (is_reserved text)
