-- A slice of bytes has a number below 256 at each place.
use Rattle.std.proofs.Common.{List, [], arith, get_or, length, nat_lt, refl, suc, true, ℕ, ◌==◌, ◌<◌, ◌≡◌, ◌∷◌}
use Rattle.std.proofs.lemmas.Bool.Decides.{nat_tests}
use Rattle.std.specs.List.{list_all}
use Rattle.gt_values.specs.Forms.{is_bytes}
use Rattle.gt_values.proofs.bytes.fit.Goals as goal

below : (b : ℕ) → b < 256 → nat_lt b 256 ≡ true
below b h = grind (arith, nat_tests)

all_below : (xs : List ℕ) → ((k : ℕ) → k < length xs → get_or xs k 0 < 256) → list_all (λ byte. nat_lt byte 256) xs ≡ true
all_below [] each = refl
all_below (x ∷ xs) each =
    rw (below x (each 0 (omega arith)), all_below xs (λ k h. each (suc k) (omega arith))) refl

same_length : (n : ℕ) → (n == n) ≡ true
same_length n = grind (arith, nat_tests)

fit : (xs : List ℕ) → ((k : ℕ) → k < length xs → get_or xs k 0 < 256) → is_bytes (length xs) xs ≡ true
fit xs each = rw (same_length (length xs), all_below xs each) refl

pub returns : goal.returns
returns c = fit c.args.bytes.now (λ k h. omega (arith, c.type_inv.bytes k))
