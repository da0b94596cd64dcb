-- A number is told by its bytes.
use Rattle.std.proofs.Common.{arith, ℕ, ◌%◌, ◌<◌, ◌^◌, ◌≡◌, ◌/◌}
use Rattle.gt_values.specs.Ident.{made_id}

four_bytes : (n m : ℕ) → n < 2 ^ 32 → m < 2 ^ 32 → n / 16777216 % 256 ≡ m / 16777216 % 256 → n / 65536 % 256 ≡ m / 65536 % 256
    → n / 256 % 256 ≡ m / 256 % 256 → n % 256 ≡ m % 256 → n ≡ m
four_bytes n m a b e0 e1 e2 e3 = omega arith

six_bytes : (n m : ℕ) → n < 2 ^ 48 → m < 2 ^ 48 → n / 1099511627776 % 256 ≡ m / 1099511627776 % 256
    → n / 4294967296 % 256 ≡ m / 4294967296 % 256 → n / 16777216 % 256 ≡ m / 16777216 % 256
    → n / 65536 % 256 ≡ m / 65536 % 256 → n / 256 % 256 ≡ m / 256 % 256 → n % 256 ≡ m % 256 → n ≡ m
six_bytes n m a b e0 e1 e2 e3 e4 e5 = omega arith

pub made_apart : (n m kind sort a b : ℕ) → n < 2 ^ 32 → m < 2 ^ 32 → a < 2 ^ 48 → b < 2 ^ 48
    → made_id n kind a ≡ made_id m sort b → (n ≡ m) × (kind ≡ sort) × (a ≡ b)
made_apart n m kind sort a b n_in m_in a_in b_in same =
    (four_bytes n m n_in m_in (cc) (cc) (cc) (cc), (cc), six_bytes a b a_in b_in (cc) (cc) (cc) (cc) (cc) (cc))
