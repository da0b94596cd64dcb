-- Reading what a transfer or an access rule is to be from the front of a list of bytes.
use Rattle.gt_records.specs.Reading.{byte_at, checked, coded_at, mapped, number_at, ◌⊗◌}
use Rattle.gt_records.specs.ReadingFields.{boolean_at, list_at, moment_at, option_at, path_at, principal_at, string_at}
use Rattle.gt_records.specs.declared.spec.Flags.{Flags}
use Rattle.gt_types.specs.SpecForms.{is_transfer_spec}
use Rattle.gt_types.specs.declared.kept.Kept.{Kept}
use Rattle.gt_types.specs.declared.listing.Kind.{Kind}
use Rattle.gt_types.specs.declared.listing.Kind.TheVariants.{File, Folder}
use Rattle.gt_types.specs.declared.rule.AccessSpec.{AccessSpec}
use Rattle.gt_types.specs.declared.spec.FilterRule.{FilterRule}
use Rattle.gt_types.specs.declared.spec.TransferEntry.{TransferEntry}
use Rattle.gt_types.specs.declared.spec.TransferSpec.{TransferSpec}
use Rattle.gt_values.specs.Grammar.{Read}
use Rattle.std.specs.Int.{w32}
use Rattle.std.specs.Prelude.{Bool, List, None, Option, Some, false, if◌then◌else◌, nat_lt, suc, true, zero, ℕ, ◌%◌, ◌/◌, ◌==◌}

-- the kind of a filter rule
abbrev pub kind_of : ℕ → Option (Option Kind)
kind_of zero = Some None
kind_of (suc zero) = Some (Some File)
kind_of (suc (suc zero)) = Some (Some Folder)
kind_of (suc (suc (suc n))) = None

-- whether an entry is recursive, if that was given
abbrev pub recursive_of : ℕ → Option (Option Bool)
recursive_of zero = Some None
recursive_of (suc zero) = Some (Some false)
recursive_of (suc (suc zero)) = Some (Some true)
recursive_of (suc (suc (suc n))) = None

-- the flags of a transfer, from the bits 0 to 3
abbrev pub flags_of : ℕ → Option Flags
flags_of n =
    if nat_lt n 16
    then Some (record { verify = n % 2 == 1; preserve = n / 2 % 2 == 1; extra = n / 4 % 2 == 1; skip_source = n / 8 == 1 })
    else None

-- the kept members: which were given, and which of those were true
unfoldable pub kept_at : List ℕ → Read Kept
kept_at = mapped (λ p. record { given = p.0; set = p.1 }) (byte_at ⊗ byte_at)

-- a filter rule
unfoldable pub filter_rule_at : List ℕ → Read FilterRule
filter_rule_at =
    mapped (λ p. record { include = p.0; kind = p.1.0; pattern = p.1.1 }) (boolean_at ⊗ coded_at kind_of ⊗ string_at)

-- an entry of a transfer
unfoldable pub entry_at : List ℕ → Read TransferEntry
entry_at =
    mapped (λ p. record { source = p.0; destination = p.1.0; recursive = p.1.1 }) (path_at ⊗ path_at ⊗ coded_at recursive_of)

-- the fields of a specification as they follow one another
abbrev pub SpecFields : Type 0
SpecFields =
    ℕ × (ℕ × (Option (List ℕ) × (Option ℕ × (Option ℕ × (Flags × (Kept × (List FilterRule × List TransferEntry)))))))

-- the specification that has these fields
abbrev pub spec_of : SpecFields → TransferSpec
spec_of (source, (destination, (label, (deadline, (level, (flags, (kept, (rules, entries)))))))) = record {
  source = source;
  destination = destination;
  label = label;
  deadline = deadline;
  level = level;
  verify = flags.verify;
  preserve = flags.preserve;
  extra = flags.extra;
  skip_source = flags.skip_source;
  kept = kept;
  rules = rules;
  entries = entries;
}

-- the specification of a transfer, within its limits
unfoldable pub transfer_spec_at : List ℕ → Read TransferSpec
transfer_spec_at =
    checked is_transfer_spec (mapped spec_of (
    number_at w32 ⊗ number_at w32 ⊗ option_at string_at ⊗ option_at moment_at ⊗ option_at byte_at
    ⊗ coded_at flags_of ⊗ kept_at ⊗ list_at filter_rule_at ⊗ list_at entry_at))

-- what an access rule says
unfoldable pub access_spec_at : List ℕ → Read AccessSpec
access_spec_at =
    mapped (λ p. record { principal = p.0; path = p.1.0; write = p.1.1 }) (principal_at ⊗ path_at ⊗ boolean_at)
