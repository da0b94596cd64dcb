-- What the calls of the journal make of a desk's fields.
use Rattle.std.proofs.Common.{◌≡◌, ℕ, ◌*◌, ◌+◌, ◌≤◌, List, [], ◌∷◌, ◌++◌, Err, Ok, Option, None, Some, IsTrue, append-nil, arith, false, inl, inr, length-append, refl, sym, ap, subst, true, ◌∙◌, ⊎_elim}
use Rattle.std.specs.Option.{option_map}
use Rattle.std.specs.Prelude.{IfSome, is_some}
use Rattle.gt_desk.specs.Desk.{Agrees, Desk, HasRecorded, HasSettled, IsConsistent, IsPending, desk_of, event_in, events_of}
use Rattle.gt_desk.specs.DeskCall.{MayCount}
use Rattle.gt_desk.specs.History.{Ledger, Stands, StandsDuring, StandsFor, StandsWith}
use Rattle.gt_desk.proofs.Histories.{events_more}
use Rattle.gt_desk.proofs.Standing.{agrees_more, agrees_same, one_kept_of, stands_for, stands_longer}
use Rattle.gt_desk.specs.declared.fault.DeskFault.TheVariants.{JournalFault}
use Rattle.gt_disk.specs.Disk.{DiskWords, LeavesOnly}
use Rattle.gt_disk.specs.Moments.{weaker}
use Rattle.gt_journal.specs.Calls.{IsAdded, IsNotAdded, IsUnsettled, IsUnwritten, Settles, StaysWith}
use Rattle.gt_journal.specs.Journal.{IsSameJournal, Journal, Rests}
use Rattle.gt_journal.specs.JournalText.{IsJournalText, IsTextWithDoubt}
use Rattle.gt_journal.specs.declared.settled.Settled.TheVariants.{Kept}
use Rattle.gt_machine.specs.Change.{Held}
use Rattle.gt_machine.specs.MachineState.{MachineState, empty_state}
use Rattle.gt_machine.specs.Run.{IsReached, run_of}
use Rattle.gt_machine.specs.RunFacts.{reached_more, run_more, run_one}
use Rattle.gt_machine.specs.Sound.{IsSound}
use Rattle.gt_machine.specs.Step.{step_of}
use Rattle.gt_machine.specs.declared.change.Change.{Change}
use Rattle.gt_machine.specs.declared.decision.Decision.TheVariants.{Do}
use Rattle.gt_records.specs.ReadingEvents.{event_of}
use Rattle.gt_records.specs.RecordText.{record_text}
use Rattle.gt_setup.specs.Setup.{Setup}
use Rattle.gt_types.specs.declared.event.Event.{Event}

-- a step counts its event
pub counted : (setup : Setup) (m next : MachineState) (event : Event) → ((history : List Event) (s : MachineState) → run_of setup history ≡ Some s → IsSound setup history s)
    → IsReached setup m → step_of setup m event ≡ Some next → next.events ≡ m.events + 1
counted setup m next event law (history, runs) step =
    let now = (law history m runs).counted.events in
    let later = (law (history ++ event ∷ []) next (run_more setup (empty_state setup.namespace) m next history event runs step)).counted.events in
    omega (arith, now, later, length-append history (event ∷ []))

-- a body that could not be added, by whether one is in doubt
pub is_doubted : {D : Type 0} (words : DiskWords D) (old : Journal D) (body : List ℕ) (new : Journal D) → is_some new.doubt ≡ true → IsNotAdded words old body new → StaysWith words old (Some body) new
is_doubted words old body new some either = ⊎_elim (λ stays. stays) (λ un. let none : new.doubt ≡ None = un.stays.left in let no : ⊥ = cc in absurd no) either

pub is_unwritten : {D : Type 0} (words : DiskWords D) (old : Journal D) (body : List ℕ) (new : Journal D) → is_some new.doubt ≡ false → IsNotAdded words old body new → IsUnwritten words old new
is_unwritten words old body new none either = ⊎_elim (λ stays. let some : new.doubt ≡ Some body = stays.left in let no : ⊥ = cc in absurd no) (λ un. un) either

same_text : (a b : List ℕ) → Some a ≡ Some b → a ≡ b
same_text a b same = cc

-- more room, and another state of the same machine
module _ {D : Type 0} (words : DiskWords D) (setup : Setup) (state next : Held) (doubt : Option Change) (old new : Journal D) (still : next.machine ≡ state.machine) (room : new ≡ record old { room = new.room }) where
  desk_with : MachineState → Desk D
  desk_with m = record { setup = setup; disk = old.disk; ledger = record { history = events_of old.bodies; machine = m; doubt = event_in doubt } }

  pub prepared_view : desk_of setup next doubt new ≡ desk_of setup state doubt old
  unfolding desk_with
  prepared_view = ap (λ (j : Journal D). desk_of setup next doubt j) room ∙ ap desk_with still

  pub prepared_consistent : doubt ≡ None → IsConsistent words setup state doubt old → IsConsistent words setup next doubt new
  prepared_consistent none was = subst (λ (j : Journal D). IsConsistent words setup next doubt j) (sym room) (record {
    reached = subst (λ m. IsReached setup m) (sym still) was.reached;
    few = subst (λ (m : MachineState). 9 * m.events ≤ old.place) (sym still) was.few;
    pending = subst (λ o. IfSome o (IsPending setup next)) (sym none) tt;
    text = was.text;
    told = λ t. let agrees = was.told t in record { texts = agrees.texts; runs = agrees.runs ∙ ap (λ (m : MachineState). Some m) (sym still); images = agrees.images };
  })

module _ {D : Type 0} (words : DiskWords D) (setup : Setup) (state : Held) (doubt : Option Change) (old new : Journal D) (was : IsConsistent words setup state doubt old) (same : IsSameJournal words old new) (rests : Rests words new) where
  before : IsTrue (words.honest new.disk) → IsTrue (words.honest old.disk)
  before t = sym same.disk.honest ∙ t

  -- an event was recorded, that of the doubt or another one
  module _ (event : Event) (again : event_of (record_text event) ≡ Some event) (added : IsAdded words old (record_text event) new) (next : Held) (step : step_of setup state.machine event ≡ Some next.machine) where
    pub added_history : IsTrue (words.honest old.disk) → events_of new.bodies ≡ events_of old.bodies ++ event ∷ []
    added_history t = ap events_of (added.bodies t) ∙ events_more event again old.bodies

    pub added_recorded : (left : Option Change) → left ≡ None → HasRecorded words (Do event (tt {0})) (desk_of setup state doubt old) (Ok (tt {0})) (desk_of setup next left new)
    added_recorded left none = record {
      made = event ∷ [];
      runs = run_one setup state.machine next.machine event step;
      history = added_history;
      records = (refl, refl, ap event_in none);
    }

    pub added_consistent : next.machine.events ≡ state.machine.events + 1 → (left : Option Change) → left ≡ None → IsConsistent words setup next left new
    added_consistent more left none = subst (λ o. IsConsistent words setup next o new) (sym none) (record {
      reached = reached_more setup state.machine next.machine event was.reached step;
      few = omega (arith, added.place, was.few, more);
      pending = tt;
      text = added.clear;
      told = λ t. agrees_more words setup state.machine old new (was.told (before t)) (rests.images t) event next.machine again step (added.bodies (before t));
    })

  -- the event in doubt was kept
  module _ (change : Change) (is : doubt ≡ Some change) (again : event_of (record_text change.event) ≡ Some change.event) (settles : Settles words old Kept new) where
    pub kept_added : IsAdded words old (record_text change.event) new
    kept_added =
        let (body, some, added, gate) = settles in
        let text : Some body ≡ Some (record_text change.event) = sym some ∙ was.text ∙ ap (λ (o : Option Change). option_map record_text (event_in o)) is in
        subst (λ b. IsAdded words old b new) (same_text body (record_text change.event) text) added

    pub kept_settled : (next : Held) → step_of setup state.machine change.event ≡ Some next.machine → (left : Option Change) → left ≡ None → HasSettled words (desk_of setup state doubt old) (desk_of setup next left new)
    kept_settled next step left none = record {
      kept = change.event ∷ [];
      settles = one_kept_of (event_in doubt) change.event (ap event_in is);
      runs = run_one setup state.machine next.machine change.event step;
      history = added_history change.event again kept_added next step;
      clear = ap event_in none;
    }

    pub kept_consistent : (next : Held) → step_of setup state.machine change.event ≡ Some next.machine → next.machine.events ≡ state.machine.events + 1 → (left : Option Change) → left ≡ None → IsConsistent words setup next left new
    kept_consistent next step more left none = added_consistent change.event again kept_added next step more left none

  -- nothing is in doubt any longer, and nothing was added
  module _ (stays : StaysWith words old None new) (left : Option Change) (none : left ≡ None) where
    pub still_consistent : IsConsistent words setup state left new
    still_consistent = subst (λ o. IsConsistent words setup state o new) (sym none) (record {
      reached = was.reached;
      few = omega (arith, stays.place, was.few);
      pending = tt;
      text = stays.left;
      told = λ t. agrees_same words setup state.machine old new (was.told (before t)) (rests.images t) (stays.bodies (before t));
    })

  -- nothing was recorded: the event is in doubt, or was never there
  pub not_recorded : (event : Event) (kept : Option (List ℕ)) → StaysWith words old kept new → (left : Option Change) → MayCount event (event_in left)
      → HasRecorded words (Do event (tt {0})) (desk_of setup state doubt old) (Err JournalFault) (desk_of setup state left new)
  not_recorded event kept stays left may = record {
    made = [];
    runs = refl;
    history = λ t. ap events_of (stays.bodies t) ∙ sym (append-nil (events_of old.bodies));
    records = (refl, (event, refl, may));
  }

  -- it is in doubt still
  pub unsettled_consistent : IsUnsettled words old new → IsConsistent words setup state doubt new
  unsettled_consistent un = record {
    reached = was.reached;
    few = omega (arith, un.stays.place, was.few);
    pending = was.pending;
    text = un.stays.left ∙ was.text;
    told = λ t. agrees_same words setup state.machine old new (was.told (before t)) (rests.images t) (un.stays.bodies (before t));
  }

  -- an event is in doubt, whose change is planned on the same machine
  pub doubted_consistent : (next : Held) (change : Change) → next.machine ≡ state.machine → IsPending setup next change → StaysWith words old (Some (record_text change.event)) new → IsConsistent words setup next (Some change) new
  doubted_consistent next change still pending stays = record {
    reached = subst (λ m. IsReached setup m) (sym still) was.reached;
    few = subst (λ (m : MachineState). 9 * m.events ≤ new.place) (sym still) (omega (arith, stays.place, was.few));
    pending = pending;
    text = stays.left;
    told = λ t. subst (λ m. Agrees words setup m new) (sym still) (agrees_same words setup state.machine old new (was.told (before t)) (rests.images t) (stays.bodies (before t)));
  }

  -- a crash while an event was recorded, where nothing was in doubt
  module _ (none : doubt ≡ None) (honest : IsTrue (words.honest old.disk)) (later : Ledger) where
    old_stands : (c : List ℕ) → IsJournalText old.bodies c → Stands setup (desk_of setup state doubt old).ledger c
    old_stands c file =
        let agrees = was.told honest in
        subst (λ o. StandsWith setup (events_of old.bodies) (event_in o) c) (sym none) (stands_for setup old.bodies state.machine agrees.texts agrees.runs c file)

    -- of it nothing is there
    pub during_nothing : LeavesOnly words old.disk new.disk (IsJournalText old.bodies) → LeavesOnly words old.disk new.disk (StandsDuring setup (desk_of setup state doubt old).ledger later)
    during_nothing run =
        weaker words old.disk new.disk (IsJournalText old.bodies) (StandsDuring setup (desk_of setup state doubt old).ledger later) (λ c file. inl (old_stands c file)) run

    -- it may be there
    pub during_event : (event : Event) (last : MachineState) → step_of setup state.machine event ≡ Some last → ((c : List ℕ) → StandsFor setup (events_of old.bodies ++ event ∷ []) c → Stands setup later c)
        → LeavesOnly words old.disk new.disk (IsTextWithDoubt old.bodies (Some (record_text event))) → LeavesOnly words old.disk new.disk (StandsDuring setup (desk_of setup state doubt old).ledger later)
    during_event event last step there run =
        let agrees = was.told honest in
        weaker words old.disk new.disk (IsTextWithDoubt old.bodies (Some (record_text event))) (StandsDuring setup (desk_of setup state doubt old).ledger later)
        (λ c either. ⊎_elim (λ file. inl (old_stands c file)) (λ file. inr (there c (stands_longer setup old.bodies state.machine agrees.texts agrees.runs event last step c file))) either) run
