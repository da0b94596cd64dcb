-- The last place of a key in a list.
use Rattle.std.proofs.Common.{List, [], arith, cond, length, nat_eq, refl, ℕ, ◌+◌, ◌++◌, ◌∷◌, ◌≡◌, ◌≤◌}
use Rattle.std.proofs.lemmas.Bool.{eq-eqb, ne_eqb}
use Rattle.gt_access.specs.Indexed.{last_of}

pub last_of-push : (key : ℕ) (xs : List ℕ) (x : ℕ) → last_of key (xs ++ x ∷ []) ≡ cond (nat_eq x key) (length xs + 1) (last_of key xs)
last_of-push key [] x = grind arith
last_of-push key (y ∷ xs) x = grind (arith, last_of-push key xs x)

pub last_of-le : (key : ℕ) (xs : List ℕ) → last_of key xs ≤ length xs
last_of-le key [] = omega arith
last_of-le key (x ∷ xs) = grind (arith, last_of-le key xs)

-- a push of the key itself, and of another
pub last_of_same : (key : ℕ) (xs : List ℕ) → last_of key (xs ++ key ∷ []) ≡ length xs + 1
last_of_same key xs = rw (last_of-push key xs key, eq-eqb key key refl) refl

pub last_of_other : (key : ℕ) (xs : List ℕ) (x : ℕ) → (x ≡ key → ⊥) → last_of key (xs ++ x ∷ []) ≡ last_of key xs
last_of_other key xs x h = rw (last_of-push key xs x, ne_eqb x key h) refl
