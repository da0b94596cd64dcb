-- The six members of a document that have no effect: they are kept as bits, and printed as they were given.
use Rattle.std.specs.Prelude.{Bool, List, None, Option, Some, [], bit_and, codes, false, fold, if◌then◌else◌, is_some, not, unwrap_or, ℕ, ◌+◌, ◌==◌, ◌≡◌, ◌∷◌}
use Rattle.gt_types.specs.declared.kept.Kept.{Kept}
use Rattle.gt_types.specs.declared.kept.KeptMember.{KeptMember}
use Rattle.gt_types.specs.declared.kept.KeptMember.TheVariants.{EncryptData, FailOnQuotaErrors, NotifyOnFailed, NotifyOnInactive, NotifyOnSucceeded, StoreBasePathInfo}

-- the name of each in documents, and the value of its bit
abbrev pub kept_row : KeptMember → List ℕ × ℕ
kept_row NotifyOnSucceeded = (codes "notify_on_succeeded", 1)
kept_row NotifyOnFailed = (codes "notify_on_failed", 2)
kept_row NotifyOnInactive = (codes "notify_on_inactive", 4)
kept_row EncryptData = (codes "encrypt_data", 8)
kept_row FailOnQuotaErrors = (codes "fail_on_quota_errors", 16)
kept_row StoreBasePathInfo = (codes "store_base_path_info", 32)

-- all of them, in the order in which documents are read and printed
abbrev pub kept_members : List KeptMember
kept_members =
    NotifyOnSucceeded ∷ NotifyOnFailed ∷ NotifyOnInactive ∷ EncryptData ∷ FailOnQuotaErrors ∷ StoreBasePathInfo ∷ []

-- its name
abbrev pub name_of : KeptMember → List ℕ
name_of member = (kept_row member).0

-- the value of its bit
abbrev pub bit_of : KeptMember → ℕ
bit_of member = (kept_row member).1

-- whether the bit of this value is set
abbrev pub has_bit : ℕ → ℕ → Bool
has_bit bits bit = not (bit_and bits bit == 0)

-- what was given of the member, if anything was
abbrev pub flag_of : Kept → KeptMember → Option Bool
flag_of kept member =
    if has_bit kept.given (bit_of member) then Some (has_bit kept.set (bit_of member)) else None

-- the bit where the test holds, and otherwise nothing
abbrev pub bit_if : ℕ → Bool → ℕ
bit_if bit holds = if holds then bit else 0

-- nothing was given
abbrev pub no_kept : Kept
no_kept = record { given = 0; set = 0 }

-- the same with what was given of one more member
abbrev pub with_flag : Kept → KeptMember → Option Bool → Kept
with_flag kept member flag =
    record {
      given = kept.given + bit_if (bit_of member) (is_some flag);
      set = kept.set + bit_if (bit_of member) (unwrap_or flag false);
    }

-- what was given of each member
abbrev pub kept_of : (KeptMember → Option Bool) → Kept
kept_of flags = fold (λ kept member. with_flag kept member (flags member)) no_kept kept_members

-- a kept member comes back as it was given
abbrev pub KeptMembersComeBack : Type 0
KeptMembersComeBack = (flags : KeptMember → Option Bool) (member : KeptMember) → flag_of (kept_of flags) member ≡ flags member
