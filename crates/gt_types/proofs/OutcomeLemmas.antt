-- What was read back of a copy that fits its grant: by the two answers of a task's `verify` and of a read-back.
use Rattle.std.proofs.Common.{Bool, List, None, Option, Some, ap, false, refl, sym, true, true≢false, ℕ, ◌≡◌}
use Rattle.std.proofs.lemmas.Bool.{and_parts}
use Rattle.std.proofs.lemmas.Slice.Eq.{bytes_eq-Decides}
use Rattle.gt_types.specs.Outcome.{VerifiedCopiesWereReadBack, is_read_back, may_copy}

read_back : (verify : Bool) (source : List ℕ) (back : Option (List ℕ)) → is_read_back verify source back ≡ true
    → (verify ≡ true → back ≡ Some source) × (verify ≡ false → back ≡ None)
read_back true source None fits = absurd (true≢false (sym fits))
read_back true source (Some back) fits =
    (λ _. ap Some ((bytes_eq-Decides back source).0 fits), λ is. absurd (true≢false is))
read_back false source None fits = (λ is. absurd (true≢false (sym is)), λ _. refl)
read_back false source (Some back) fits = absurd (true≢false (sym fits))

pub verified_copies : VerifiedCopiesWereReadBack
verified_copies grant evidence checked fits =
    read_back grant.verify evidence.source evidence.back
    (and_parts (may_copy grant.act) (is_read_back grant.verify evidence.source evidence.back) fits).1
