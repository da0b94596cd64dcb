-- Reading an outcome from the front of a list of bytes.
use Rattle.gt_records.specs.OutcomeText.{code_number, codes, side_number, sides}
use Rattle.gt_records.specs.Reading.{Form, byte_at, coded_at, led, mapped, number_at, numbered, of_form, ◌⊗◌}
use Rattle.gt_records.specs.ReadingFields.{digest_at, option_at}
use Rattle.gt_types.specs.declared.act.Side.{Side}
use Rattle.gt_types.specs.declared.code.Code.{Code}
use Rattle.gt_types.specs.declared.outcome.Evidence.{Evidence}
use Rattle.gt_types.specs.declared.outcome.Outcome.{Outcome}
use Rattle.gt_types.specs.declared.outcome.Outcome.TheVariants.{Copied, Failed, Mismatch, TreeFault}
use Rattle.gt_values.specs.Grammar.{Read}
use Rattle.std.specs.Int.{w64}
use Rattle.std.specs.Prelude.{List, [], ℕ, ◌∷◌}

-- a code, by its number
unfoldable pub code_at : List ℕ → Read Code
code_at = coded_at (numbered code_number codes)

-- a side, by its number
unfoldable pub side_at : List ℕ → Read Side
side_at = coded_at (numbered side_number sides)

-- what a copy rests on
unfoldable pub evidence_at : List ℕ → Read Evidence
evidence_at =
    mapped (λ p. record { size = p.0; source = p.1.0; back = p.1.1 }) (number_at w64 ⊗ digest_at ⊗ option_at digest_at)

-- the fields of a mismatch
unfoldable pub mismatch_at : List ℕ → Read Outcome
mismatch_at =
    mapped (λ p. Mismatch p.0 p.1.0 p.1.1.0 p.1.1.1.0 p.1.1.1.1)
    (number_at w64 ⊗ digest_at ⊗ number_at w64 ⊗ digest_at ⊗ number_at w64)

-- the forms of an outcome: its number, and its fields
abbrev pub outcome_forms : List (Form Outcome)
outcome_forms =
    (record { number = 1; reader = mapped (λ p. Copied p.0 p.1) (evidence_at ⊗ number_at w64) })
    ∷ (record { number = 7; reader = mapped (λ p. Failed p.0 p.1) (code_at ⊗ side_at) })
    ∷ (record { number = 8; reader = mapped (λ p. TreeFault p.0 p.1) (number_at w64 ⊗ number_at w64) })
    ∷ (record { number = 9; reader = mismatch_at }) ∷ []

-- an outcome, by the form whose number stands first
unfoldable pub outcome_at : List ℕ → Read Outcome
outcome_at = led byte_at (of_form outcome_forms)
