-- A kept member comes back as it was given: decided over the sixty-four ways of six tests.
use Rattle.std.proofs.Common.{Bool, None, Option, Some, ap, arith, bit_and, eqb, false, is_some, ltb, not, refl, sum_by, sym, true, true≢false, unwrap_or, ℕ, if◌then◌else◌, ◌&&◌, ◌*◌, ◌+◌, ◌<◌, ◌^◌, ◌∙◌, ◌≡◌, ◌≤◌}
use Rattle.std.proofs.lemmas.Bool.{and_from, and_parts, eq-eqb, eqb-true, lt-ltb}
use Rattle.std.proofs.lemmas.Nat.{and_block, and_le_l}
use Rattle.gt_types.specs.Forms.{is_kept}
use Rattle.gt_types.specs.Kept.{bit_if, bit_of, flag_of, has_bit, kept_members, kept_of, with_flag}
use Rattle.gt_types.specs.declared.kept.Kept.{Kept}
use Rattle.gt_types.specs.declared.kept.KeptMember.{KeptMember}
use Rattle.gt_types.specs.declared.kept.KeptMember.TheVariants.{EncryptData, FailOnQuotaErrors, NotifyOnFailed, NotifyOnInactive, NotifyOnSucceeded, StoreBasePathInfo}

abbrev Six : Type 0
Six = Bool → Bool → Bool → Bool → Bool → Bool → Bool

abbrev every : (Bool → Bool) → Bool
every p = p true && p false

every_is : (p : Bool → Bool) (b : Bool) → every p ≡ true → p b ≡ true
every_is p b h = by_cases (p true) (p false) refl refl b h
  where
    by_cases : (x y : Bool) → p true ≡ x → p false ≡ y → (b : Bool) → (x && y) ≡ true → p b ≡ true
    by_cases true true e f true h = e
    by_cases true true e f false h = f
    by_cases true false e f b h = absurd (true≢false (sym h))
    by_cases false y e f b h = absurd (true≢false (sym h))

abbrev of_six : Six → Bool
of_six p = every (λ a. every (λ b. every (λ c. every (λ d. every (λ e. every (λ f. p a b c d e f))))))

six_is : (p : Six) (a b c d e f : Bool) → of_six p ≡ true → p a b c d e f ≡ true
six_is p a b c d e f h =
    every_is (λ f. p a b c d e f) f (every_is (λ e. every (λ f. p a b c d e f)) e
    (every_is (λ d. every (λ e. every (λ f. p a b c d e f))) d
    (every_is (λ c. every (λ d. every (λ e. every (λ f. p a b c d e f)))) c
    (every_is (λ b. every (λ c. every (λ d. every (λ e. every (λ f. p a b c d e f))))) b
    (every_is (λ a. every (λ b. every (λ c. every (λ d. every (λ e. every (λ f. p a b c d e f)))))) a h)))))

abbrev same : Bool → Bool → Bool
same true b = b
same false b = not b

same_is : (a b : Bool) → same a b ≡ true → a ≡ b
same_is true true h = refl
same_is true false h = absurd (true≢false (sym h))
same_is false true h = absurd (true≢false (sym h))
same_is false false h = refl

abbrev one_of : Bool → Bool → Bool → Bool → Bool → Bool → KeptMember → Bool
one_of a b c d e f NotifyOnSucceeded = a
one_of a b c d e f NotifyOnFailed = b
one_of a b c d e f NotifyOnInactive = c
one_of a b c d e f EncryptData = d
one_of a b c d e f FailOnQuotaErrors = e
one_of a b c d e f StoreBasePathInfo = f

abbrev bits : (KeptMember → Bool) → ℕ
bits test = sum_by (λ member. bit_if (bit_of member) (test member)) kept_members

-- whether the bit of the member tells its test
abbrev tells : KeptMember → Six
tells member a b c d e f = same (has_bit (bits (one_of a b c d e f)) (bit_of member)) (one_of a b c d e f member)

there : (test : KeptMember → Bool) (member : KeptMember) → has_bit (bits test) (bit_of member) ≡ test member
there test NotifyOnSucceeded =
    same_is (has_bit (bits test) (bit_of NotifyOnSucceeded)) (test NotifyOnSucceeded)
    (six_is (tells NotifyOnSucceeded) (test NotifyOnSucceeded) (test NotifyOnFailed) (test NotifyOnInactive) (test EncryptData) (test FailOnQuotaErrors) (test StoreBasePathInfo) refl)
there test NotifyOnFailed =
    same_is (has_bit (bits test) (bit_of NotifyOnFailed)) (test NotifyOnFailed)
    (six_is (tells NotifyOnFailed) (test NotifyOnSucceeded) (test NotifyOnFailed) (test NotifyOnInactive) (test EncryptData) (test FailOnQuotaErrors) (test StoreBasePathInfo) refl)
there test NotifyOnInactive =
    same_is (has_bit (bits test) (bit_of NotifyOnInactive)) (test NotifyOnInactive)
    (six_is (tells NotifyOnInactive) (test NotifyOnSucceeded) (test NotifyOnFailed) (test NotifyOnInactive) (test EncryptData) (test FailOnQuotaErrors) (test StoreBasePathInfo) refl)
there test EncryptData =
    same_is (has_bit (bits test) (bit_of EncryptData)) (test EncryptData)
    (six_is (tells EncryptData) (test NotifyOnSucceeded) (test NotifyOnFailed) (test NotifyOnInactive) (test EncryptData) (test FailOnQuotaErrors) (test StoreBasePathInfo) refl)
there test FailOnQuotaErrors =
    same_is (has_bit (bits test) (bit_of FailOnQuotaErrors)) (test FailOnQuotaErrors)
    (six_is (tells FailOnQuotaErrors) (test NotifyOnSucceeded) (test NotifyOnFailed) (test NotifyOnInactive) (test EncryptData) (test FailOnQuotaErrors) (test StoreBasePathInfo) refl)
there test StoreBasePathInfo =
    same_is (has_bit (bits test) (bit_of StoreBasePathInfo)) (test StoreBasePathInfo)
    (six_is (tells StoreBasePathInfo) (test NotifyOnSucceeded) (test NotifyOnFailed) (test NotifyOnInactive) (test EncryptData) (test FailOnQuotaErrors) (test StoreBasePathInfo) refl)

back : (o : Option Bool) → (if is_some o then Some (unwrap_or o false) else None) ≡ o
back None = refl
back (Some flag) = refl

pub comes_back : (flags : KeptMember → Option Bool) (member : KeptMember) → flag_of (kept_of flags) member ≡ flags member
comes_back flags member =
    let given : has_bit (kept_of flags).given (bit_of member) ≡ is_some (flags member) = there (λ m. is_some (flags m)) member in
    let set : has_bit (kept_of flags).set (bit_of member) ≡ unwrap_or (flags member) false =
    there (λ m. unwrap_or (flags m) false) member in
    rw (given, set) (back (flags member))

-- ---- one more bit above the others

above : (k given set a b : ℕ) → given < 2 ^ k → set < 2 ^ k → bit_and given set ≡ set → bit_and a b ≡ b
    → bit_and (a * 2 ^ k + given) (b * 2 ^ k + set) ≡ b * 2 ^ k + set
above k given set a b f g only top =
    and_block k a b given set f g ∙ ap (λ n. n * 2 ^ k + bit_and given set) top ∙ ap (λ n. b * 2 ^ k + n) only

bits_are : (given set : ℕ) → given < 64 → bit_and given set ≡ set → is_kept (record { given = given; set = set }) ≡ true
bits_are given set f only = and_from _ _ (lt-ltb given 64 f) (eq-eqb _ _ only)

kept_above : (k given set : ℕ) (flag : Option Bool) → 2 ^ k ≤ 32 → given < 2 ^ k → set ≤ given → bit_and given set ≡ set
    → is_kept (record { given = given + bit_if (2 ^ k) (is_some flag); set = set + bit_if (2 ^ k) (unwrap_or flag false) }) ≡ true
kept_above k given set None cap f low only =
    let g : given + 0 ≡ given = omega arith in
    let s : set + 0 ≡ set = omega arith in
    rw (g, s) (bits_are given set (omega (arith, cap, f)) only)
kept_above k given set (Some false) cap f low only =
    let g : given + 2 ^ k ≡ 1 * 2 ^ k + given = omega arith in
    let s : set + 0 ≡ 0 * 2 ^ k + set = omega arith in
    rw (g, s) (bits_are (1 * 2 ^ k + given) (0 * 2 ^ k + set) (omega (arith, cap, f)) (above k given set 1 0 f (omega (arith, f, low)) only refl))
kept_above k given set (Some true) cap f low only =
    let g : given + 2 ^ k ≡ 1 * 2 ^ k + given = omega arith in
    let s : set + 2 ^ k ≡ 1 * 2 ^ k + set = omega arith in
    rw (g, s) (bits_are (1 * 2 ^ k + given) (1 * 2 ^ k + set) (omega (arith, cap, f)) (above k given set 1 1 f (omega (arith, f, low)) only refl))

only_given : (kept : Kept) → is_kept kept ≡ true → bit_and kept.given kept.set ≡ kept.set
only_given kept h = eqb-true _ _ (and_parts (ltb kept.given 64) (eqb (bit_and kept.given kept.set) kept.set) h).1

-- fewer bits are set than given
pub set_below : (kept : Kept) → is_kept kept ≡ true → kept.set ≤ kept.given
set_below kept h = omega (arith, only_given kept h, and_le_l kept.given kept.set)

-- a member above those that were given keeps the limits
pub kept_with : (kept : Kept) (member : KeptMember) (flag : Option Bool) → kept.given < bit_of member → is_kept kept ≡ true
    → is_kept (with_flag kept member flag) ≡ true
kept_with kept NotifyOnSucceeded flag f h = kept_above 0 kept.given kept.set flag (omega arith) f (set_below kept h) (only_given kept h)
kept_with kept NotifyOnFailed flag f h = kept_above 1 kept.given kept.set flag (omega arith) f (set_below kept h) (only_given kept h)
kept_with kept NotifyOnInactive flag f h = kept_above 2 kept.given kept.set flag (omega arith) f (set_below kept h) (only_given kept h)
kept_with kept EncryptData flag f h = kept_above 3 kept.given kept.set flag (omega arith) f (set_below kept h) (only_given kept h)
kept_with kept FailOnQuotaErrors flag f h = kept_above 4 kept.given kept.set flag (omega arith) f (set_below kept h) (only_given kept h)
kept_with kept StoreBasePathInfo flag f h = kept_above 5 kept.given kept.set flag (omega arith) f (set_below kept h) (only_given kept h)
