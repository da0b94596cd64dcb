-- Reading an event from the front of a list of bytes.
use Rattle.gt_records.specs.Reading.{Form, alone, byte_at, checked, led, mapped, number_at, of_form, ◌⊗◌}
use Rattle.gt_records.specs.ReadingFields.{boolean_at, id_at, moment_at}
use Rattle.gt_records.specs.ReadingOutcomes.{outcome_at, side_at}
use Rattle.gt_records.specs.ReadingSpecs.{access_spec_at, transfer_spec_at}
use Rattle.gt_types.specs.Event.{is_worker}
use Rattle.gt_types.specs.declared.event.Event.{Event}
use Rattle.gt_types.specs.declared.event.Happening.{Happening}
use Rattle.gt_types.specs.declared.event.Happening.TheVariants.{AccessAdd, AccessEnd, AccessReplace, GrantItem, Issue, RefuseItem, ReportItem, Restart, SubmitTransfer}
use Rattle.gt_values.specs.Grammar.{Read, ◌>>=◌}
use Rattle.std.specs.Int.{w32, w64}
use Rattle.std.specs.Prelude.{List, None, Option, Some, [], if◌then◌else◌, length, ℕ, ◌==◌, ◌∷◌}

-- the number of a worker
unfoldable pub worker_at : List ℕ → Read ℕ
worker_at = checked is_worker byte_at

-- the forms of what happens: the tag, and the fields
abbrev pub happening_forms : List (Form Happening)
happening_forms =
    (record { number = 1; reader = mapped Issue id_at })
    ∷ (record { number = 2; reader = mapped (λ p. SubmitTransfer p.0 p.1.0 p.1.1) (id_at ⊗ id_at ⊗ transfer_spec_at) })
    ∷ (record { number = 4; reader = mapped (λ p. AccessAdd p.0 p.1) (number_at w32 ⊗ access_spec_at) })
    ∷ (record { number = 5; reader = mapped (λ p. AccessReplace p.0 p.1) (number_at w64 ⊗ boolean_at) })
    ∷ (record { number = 6; reader = mapped AccessEnd (number_at w64) })
    ∷ (record { number = 11; reader = mapped (λ p. GrantItem p.0 p.1) (worker_at ⊗ number_at w64) })
    ∷ (record { number = 12; reader = mapped (λ p. RefuseItem p.0 p.1) (number_at w64 ⊗ side_at) })
    ∷ (record {
      number = 13;
      reader = mapped (λ p. ReportItem p.0 p.1.0 p.1.1) (number_at w64 ⊗ number_at w64 ⊗ outcome_at);
    })
    ∷ (record { number = 15; reader = alone Restart }) ∷ []

-- what happens in an event of this tag
unfoldable pub happening_at : ℕ → List ℕ → Read Happening
happening_at = of_form happening_forms

-- the moment and the fields of an event of this tag
abbrev pub tagged_at : ℕ → List ℕ → Read Event
tagged_at tag = mapped (λ p. record { moment = p.0; what = p.1 }) (moment_at ⊗ happening_at tag)

-- an event: its tag, its moment and its fields
unfoldable pub event_at : List ℕ → Read Event
event_at = led byte_at tagged_at

-- the event of all the bytes
unfoldable pub event_of : List ℕ → Option Event
event_of bytes = do
  event ← event_at bytes
  if length event.1 == 0 then Some event.0 else None
