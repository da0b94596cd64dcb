-- Bodies and the events whose texts they are, and runs of their events.
use Rattle.std.proofs.Common.{◌≡◌, ℕ, List, [], ◌∷◌, ◌++◌, Option, Some, IsSome, map, refl, sym, ap, ◌∙◌, append_assoc, rules}
use Rattle.std.proofs.lemmas.List.{map-append}
use Rattle.gt_desk.specs.Desk.{events_of, listed}
use Rattle.gt_machine.specs.MachineState.{MachineState}
use Rattle.gt_machine.specs.Run.{run_from, run_of}
use Rattle.gt_records.specs.ReadingEvents.{event_of}
use Rattle.gt_records.specs.RecordText.{record_text}
use Rattle.gt_setup.specs.Setup.{Setup}
use Rattle.gt_types.specs.declared.event.Event.{Event}

-- one body more
more_events : (bodies : List (List ℕ)) (body : List ℕ) → events_of (bodies ++ body ∷ []) ≡ events_of bodies ++ listed (event_of body)
more_events [] body = grind rules
more_events (first ∷ bodies) body =
    ap (λ (events : List Event). listed (event_of first) ++ events) (more_events bodies body)
    ∙ sym (append_assoc (listed (event_of first)) (events_of bodies) (listed (event_of body)))

-- where the text of an event reads back as that event
module _ (event : Event) (again : event_of (record_text event) ≡ Some event) where
  pub events_more : (bodies : List (List ℕ)) → events_of (bodies ++ record_text event ∷ []) ≡ events_of bodies ++ event ∷ []
  events_more bodies = more_events bodies (record_text event) ∙ ap (λ (o : Option Event). events_of bodies ++ listed o) again

  pub texts_more : (bodies : List (List ℕ)) → bodies ≡ map record_text (events_of bodies)
      → bodies ++ record_text event ∷ [] ≡ map record_text (events_of (bodies ++ record_text event ∷ []))
  texts_more bodies texts =
      ap (λ (bs : List (List ℕ)). bs ++ record_text event ∷ []) texts
      ∙ sym (map-append record_text (events_of bodies) (event ∷ []))
      ∙ ap (λ (events : List Event). map record_text events) (sym (events_more bodies))

-- a run of nothing stays
pub run_none : (setup : Setup) (events : List Event) (m last : MachineState) → events ≡ [] → last ≡ m → run_from setup m events ≡ Some last
run_none setup events m last none same = rw (none, same) refl

pub runs_through : (setup : Setup) (history : List Event) (m : MachineState) → run_of setup history ≡ Some m → IsSome (run_of setup history)
runs_through setup history m is = rw is refl
