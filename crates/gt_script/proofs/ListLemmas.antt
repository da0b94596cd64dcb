-- Lists of bytes that stand at the front of the same bytes.
use Rattle.std.proofs.Common.{List, [], ap, arith, drop, length, refl, sym, ◌++◌, ◌∙◌, ◌∷◌, ◌≡◌, ◌≢◌, ◌≤◌, ℕ}
use Rattle.std.proofs.Math.Seq.{drop-append_seam}
use Rattle.std.specs.List.{AllByRecursion}

-- none of these bytes is this one
abbrev pub Lacks : ℕ → List ℕ → Type 0
Lacks byte bytes = AllByRecursion (λ b. b ≢ byte) bytes

-- the same front leaves the same rest
pub append_cancel : (front x y : List ℕ) → front ++ x ≡ front ++ y → x ≡ y
append_cancel front x y e = sym (drop-append_seam front x) ∙ ap (drop (length front)) e ∙ drop-append_seam front y

-- two fronts of one length are one
pub same_length_front : (a b x y : List ℕ) → length a ≡ length b → a ++ x ≡ b ++ y → a ≡ b
same_length_front [] [] x y n e = refl
same_length_front [] (d ∷ b) x y n e = absurd (omega (arith, n))
same_length_front (c ∷ a) [] x y n e = absurd (omega (arith, n))
same_length_front (c ∷ a) (d ∷ b) x y n e =
    let heads : c ≡ d = cc in
    let tails : a ++ x ≡ b ++ y = cc in
    let rest : a ≡ b = same_length_front a b x y (omega (arith, n)) tails in cc

-- what lacks a byte ends before the first one
pub no_longer : (byte : ℕ) (a b x y : List ℕ) → Lacks byte a → a ++ x ≡ b ++ byte ∷ y → length a ≤ length b
no_longer byte [] b x y plain e = omega arith
no_longer byte (c ∷ a) [] x y plain e = let same : c ≡ byte = cc in absurd (plain.0 same)
no_longer byte (c ∷ a) (d ∷ b) x y plain e = let tails : a ++ x ≡ b ++ byte ∷ y = cc in omega (arith, no_longer byte a b x y plain.1 tails)

-- what stands before the first such byte, and what stands behind it
pub record SameFront (a b x y : List ℕ) : Type 0 where
  pub word : a ≡ b
  pub rest : x ≡ y

pub same_front : (byte : ℕ) (a b x y : List ℕ) → Lacks byte a → Lacks byte b → a ++ byte ∷ x ≡ b ++ byte ∷ y → SameFront a b x y
same_front byte [] [] x y p q e = record { word = refl; rest = cc }
same_front byte [] (d ∷ b) x y p q e = let same : d ≡ byte = cc in absurd (q.0 same)
same_front byte (c ∷ a) [] x y p q e = let same : c ≡ byte = cc in absurd (p.0 same)
same_front byte (c ∷ a) (d ∷ b) x y p q e =
    let heads : c ≡ d = cc in
    let tails : a ++ byte ∷ x ≡ b ++ byte ∷ y = cc in
    let rest = same_front byte a b x y p.1 q.1 tails in
    record { word = let tail : a ≡ b = rest.word in cc; rest = rest.rest }

-- both parts lack it
pub Lacks-append : (byte : ℕ) (a b : List ℕ) → Lacks byte a → Lacks byte b → Lacks byte (a ++ b)
Lacks-append byte [] b p q = q
Lacks-append byte (c ∷ a) b p q = (p.0, Lacks-append byte a b p.1 q)
