-- From what the journal keeps to what the desk promises.
use Rattle.std.proofs.Common.{◌≡◌, ℕ, inl, inr, ⊎_elim, List, [], ◌∷◌, ◌++◌, Option, None, Some, IsSome, map, append-nil, refl, sym, ap, subst, ◌∙◌}
use Rattle.std.specs.Option.{option_map}
use Rattle.std.proofs.lemmas.List.{map-append}
use Rattle.std.specs.Prelude.{IfSome, IsTrue}
use Rattle.gt_desk.specs.Desk.{Agrees, IsConsistent, IsPending, event_in, events_of}
use Rattle.gt_desk.specs.DeskCall.{IsKept}
use Rattle.gt_desk.specs.History.{StandsFor, StandsWith}
use Rattle.gt_desk.proofs.Histories.{events_more, runs_through, texts_more}
use Rattle.gt_causes.specs.Outcomes.{NoMore}
use Rattle.gt_journal.specs.JournalText.{IsJournalText, IsTextWithDoubt}
use Rattle.gt_disk.specs.Disk.{DiskWords}
use Rattle.gt_journal.specs.Journal.{Journal}
use Rattle.gt_machine.specs.Change.{Held}
use Rattle.gt_machine.specs.MachineState.{MachineState, empty_state}
use Rattle.gt_machine.specs.Run.{run_of}
use Rattle.gt_machine.specs.RunFacts.{run_more}
use Rattle.gt_machine.specs.Step.{step_of}
use Rattle.gt_machine.specs.declared.change.Change.{Change}
use Rattle.gt_records.specs.ReadingEvents.{event_of}
use Rattle.gt_records.specs.RecordText.{record_text}
use Rattle.gt_setup.specs.Setup.{Setup}
use Rattle.gt_types.specs.declared.event.Event.{Event}

-- what is there, with what it is
pub found : {X : Type 0} (o : Option X) → IsSome o → (x : X) × (o ≡ Some x)
found None is = absurd (cc)
found (Some x) is = (x, refl)

module _ (setup : Setup) (bodies : List (List ℕ)) (m : MachineState) (texts : bodies ≡ map record_text (events_of bodies)) (runs : run_of setup (events_of bodies) ≡ Some m) where
  -- a file of the bodies stands for the history
  pub stands_for : (c : List ℕ) → IsJournalText bodies c → StandsFor setup (events_of bodies) c
  stands_for c file = record { texts = subst (λ bs. IsJournalText bs c) texts file; runs = runs_through setup (events_of bodies) m runs }

  -- a file of one body more stands for the history with its event
  pub stands_longer : (event : Event) (last : MachineState) → step_of setup m event ≡ Some last → (c : List ℕ) → IsJournalText (bodies ++ record_text event ∷ []) c
      → StandsFor setup (events_of bodies ++ event ∷ []) c
  stands_longer event last step c file = record {
    texts = subst (λ bs. IsJournalText bs c)
        (ap (λ (bs : List (List ℕ)). bs ++ record_text event ∷ []) texts ∙ sym (map-append record_text (events_of bodies) (event ∷ []))) file;
    runs = runs_through setup (events_of bodies ++ event ∷ []) last (run_more setup (empty_state setup.namespace) m last (events_of bodies) event runs step);
  }

  -- with the event in doubt or without
  pub stands_doubt : (doubt : Option Event) → IfSome doubt (λ event. IsSome (step_of setup m event)) → (body : Option (List ℕ)) → body ≡ option_map record_text doubt
      → (c : List ℕ) → IsTextWithDoubt bodies body c → StandsWith setup (events_of bodies) doubt c
  stands_doubt None has body is c file = stands_for c (subst (λ b. IsTextWithDoubt bodies b c) is file)
  stands_doubt (Some event) has body is c file =
      let next = found (step_of setup m event) has in
      let both : IsTextWithDoubt bodies (Some (record_text event)) c = subst (λ b. IsTextWithDoubt bodies b c) is file in
      ⊎_elim (λ short. inl (stands_for c short)) (λ long. inr (stands_longer event next.0 next.1 c long)) both

-- the event of a change that is pending has a step
pub pending_step : (setup : Setup) (state : Held) (doubt : Option Change) → IfSome doubt (IsPending setup state)
    → IfSome (event_in doubt) (λ event. IsSome (step_of setup state.machine event))
pending_step setup state None pending = tt
pending_step setup state (Some change) pending = pending.planned.step

module _ {D : Type 0} (words : DiskWords D) (setup : Setup) where
  -- a text of the journal's bodies, with the one in doubt or without, stands for the history, with the event in doubt or without
  pub stands_with : (state : Held) (doubt : Option Change) (journal : Journal D) → IsConsistent words setup state doubt journal → IsTrue (words.honest journal.disk)
      → (c : List ℕ) → IsTextWithDoubt journal.bodies journal.doubt c → StandsWith setup (events_of journal.bodies) (event_in doubt) c
  stands_with state doubt journal is honest c file =
      let agrees = is.told honest in
      stands_doubt setup journal.bodies state.machine agrees.texts agrees.runs (event_in doubt) (pending_step setup state doubt is.pending) journal.doubt is.text c file

  -- what a crash leaves now stands for the ledger
  pub stands_now : (state : Held) (doubt : Option Change) (journal : Journal D) → IsConsistent words setup state doubt journal → IsTrue (words.honest journal.disk)
      → (c : List ℕ) → words.may_leave journal.disk c → StandsWith setup (events_of journal.bodies) (event_in doubt) c
  stands_now state doubt journal is honest c now = stands_with state doubt journal is honest c ((is.told honest).images c now)

  module _ (m : MachineState) (old new : Journal D) (agrees : Agrees words setup m old) (images : NoMore (IsTextWithDoubt new.bodies new.doubt) (words.may_leave new.disk)) where
    -- the same history
    pub agrees_same : new.bodies ≡ old.bodies → Agrees words setup m new
    agrees_same same = record {
      texts = same ∙ agrees.texts ∙ ap (λ (bs : List (List ℕ)). map record_text (events_of bs)) (sym same);
      runs = ap (λ (bs : List (List ℕ)). run_of setup (events_of bs)) same ∙ agrees.runs;
      images = images;
    }

    -- one event more
    pub agrees_more : (event : Event) (last : MachineState) → event_of (record_text event) ≡ Some event → step_of setup m event ≡ Some last
        → new.bodies ≡ old.bodies ++ record_text event ∷ [] → Agrees words setup last new
    agrees_more event last again step more = record {
      texts = more ∙ texts_more event again old.bodies agrees.texts ∙ ap (λ (bs : List (List ℕ)). map record_text (events_of bs)) (sym more);
      runs = ap (λ (bs : List (List ℕ)). run_of setup (events_of bs)) more ∙ ap (λ (events : List Event). run_of setup events) (events_more event again old.bodies)
          ∙ run_more setup (empty_state setup.namespace) m last (events_of old.bodies) event agrees.runs step;
      images = images;
    }

-- the event in doubt is kept
pub one_kept_of : (doubt : Option Event) (event : Event) → doubt ≡ Some event → IsKept doubt (event ∷ [])
one_kept_of doubt event is = subst (λ d. IsKept d (event ∷ [])) (sym is) (inr refl)

-- what stands for the settled history stood for the one before, with its doubt
pub stands_before : (setup : Setup) (doubt : Option Event) (old kept : List Event) → IsKept doubt kept → (c : List ℕ) → StandsFor setup (old ++ kept) c → StandsWith setup old doubt c
stands_before setup None old kept is c stands = subst (λ h. StandsFor setup h c) (ap (λ (k : List Event). old ++ k) is ∙ append-nil old) stands
stands_before setup (Some event) old kept is c stands =
    ⊎_elim (λ none. inl (subst (λ h. StandsFor setup h c) (ap (λ (k : List Event). old ++ k) none ∙ append-nil old) stands))
    (λ one. inr (subst (λ k. StandsFor setup (old ++ k) c) one stands)) is

-- no change is kept where no event is in doubt
pub no_change : (doubt : Option Change) → event_in doubt ≡ None → doubt ≡ None
no_change None is = refl
no_change (Some change) is = absurd (cc)
