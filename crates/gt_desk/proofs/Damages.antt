-- Replaying body by body, and where it stops.
use Rattle.std.proofs.Common.{◌≡◌, ℕ, inl, inr, ◌<◌, ◌+◌, List, [], ◌∷◌, ◌++◌, Some, Vec, Global, length, take, drop, get_or, sym, ap, subst, ◌∙◌, append_assoc, take-append-drop, length-take, arith}
use Rattle.std.proofs.lemmas.List.{get_or-map, length-map, take_more}
use Rattle.gt_desk.specs.Damage.{HasRecords, IsBadBody, IsDamagedAs, IsDamagedAt, IsTextOf}
use Rattle.gt_desk.specs.Desk.{events_of}
use Rattle.gt_desk.specs.Replay.{IsBadAs, IsBadAt, Replays}
use Rattle.gt_desk.specs.declared.fault.OpenFault.{OpenFault}
use Rattle.gt_desk.specs.declared.fault.OpenFault.TheVariants.{Damaged, JournalFault, OutOfMemory}
use Rattle.gt_desk.proofs.Histories.{events_more, texts_more}
use Rattle.gt_journal.specs.JournalText.{IsDamagedAfter}
use Rattle.gt_journal.specs.Reading.{lists}
use Rattle.gt_machine.specs.MachineState.{MachineState, empty_state}
use Rattle.gt_machine.specs.Run.{run_of}
use Rattle.gt_machine.specs.RunFacts.{run_more}
use Rattle.gt_machine.specs.Step.{step_of}
use Rattle.gt_records.specs.ReadingEvents.{event_of}
use Rattle.gt_records.specs.RecordText.{record_text}
use Rattle.gt_setup.specs.Setup.{Setup}
use Rattle.gt_types.specs.declared.event.Event.{Event}

pub body_at : (vs : List (Vec ℕ Global)) (i : ℕ) (v : Vec ℕ Global) → i < length vs → v ≡ get_or vs i v → get_or (lists vs) i [] ≡ v.items
body_at vs i v h is = get_or-map (λ (w : Vec ℕ Global). w.items) vs i v [] h ∙ ap (λ (w : Vec ℕ Global). w.items) (sym is)

pub many_lists : (vs : List (Vec ℕ Global)) → length (lists vs) ≡ length vs
many_lists vs = length-map {A = _} {B = List ℕ} vs (λ v. v.items)

-- one body more
pub replays_more : (setup : Setup) (bodies : List (List ℕ)) (i : ℕ) (body : List ℕ) (m last : MachineState) (event : Event) → Replays setup (take i bodies) m → i < length bodies
    → get_or bodies i [] ≡ body → IsTextOf event body → event_of (record_text event) ≡ Some event → step_of setup m event ≡ Some last → Replays setup (take (i + 1) bodies) last
replays_more setup bodies i body m last event so_far inside here is again step =
    let more : take (i + 1) bodies ≡ take i bodies ++ record_text event ∷ [] =
    take_more bodies i [] inside ∙ ap (λ (b : List ℕ). take i bodies ++ b ∷ []) (here ∙ sym is.text) in
    subst (λ bs. Replays setup bs last) (sym more) (record {
      texts = texts_more event again (take i bodies) so_far.texts;
      runs = ap (λ (events : List Event). run_of setup events) (events_more event again (take i bodies))
          ∙ run_more setup (empty_state setup.namespace) m last (events_of (take i bodies)) event so_far.runs step;
    })

-- a bad body behind those that replay
pub bad_at : (setup : Setup) (bodies : List (List ℕ)) (i : ℕ) (body : List ℕ) (m : MachineState) → Replays setup (take i bodies) m → i < length bodies
    → get_or bodies i [] ≡ body → IsBadBody setup m body → IsBadAt setup i bodies
bad_at setup bodies i body m so_far inside here bad = record {
  front = take i bodies;
  body = body;
  rest = drop (i + 1) bodies;
  whole = sym (take-append-drop (i + 1) bodies)
      ∙ ap (λ (bs : List (List ℕ)). bs ++ drop (i + 1) bodies) (take_more bodies i [] inside ∙ ap (λ (b : List ℕ). take i bodies ++ b ∷ []) here)
      ∙ append_assoc (take i bodies) (body ∷ []) (drop (i + 1) bodies);
  before = omega (arith, length-take i bodies, inside);
  machine = m;
  replays = so_far;
  bad = bad;
}

many_events : (setup : Setup) (bodies : List (List ℕ)) (m : MachineState) → Replays setup bodies m → length (events_of bodies) ≡ length bodies
many_events setup bodies m replays = sym (length-map (events_of bodies) record_text) ∙ sym (ap length replays.texts)

-- a file of such bodies is damaged there
pub damaged_bad : (setup : Setup) (n : ℕ) (bodies : List (List ℕ)) (file : List ℕ) → IsBadAt setup n bodies → HasRecords bodies file → IsDamagedAt setup n file
damaged_bad setup n bodies file bad records = record {
  history = events_of bad.front;
  before = many_events setup bad.front bad.machine bad.replays ∙ bad.before;
  machine = bad.machine;
  runs = bad.replays.runs;
  at = inr (record {
    body = bad.body;
    rest = bad.rest;
    records = subst (λ bs. HasRecords bs file) (bad.whole ∙ ap (λ (bs : List (List ℕ)). bs ++ bad.body ∷ bad.rest) bad.replays.texts) records;
    bad = bad.bad;
  });
}

-- a refusal of a replay, of a file that has these records
pub damaged_as : (setup : Setup) (bodies : List (List ℕ)) (file : List ℕ) (fault : OpenFault) → IsBadAs setup bodies fault → HasRecords bodies file → IsDamagedAs setup file fault
damaged_as setup bodies file JournalFault bad records = tt
damaged_as setup bodies file (Damaged number) bad records = damaged_bad setup number bodies file bad records
damaged_as setup bodies file OutOfMemory bad records = tt

-- a file whose records all replay, and behind which one runs past the end, is damaged behind them
pub damaged_after : (setup : Setup) (n : ℕ) (bodies : List (List ℕ)) (m : MachineState) (file : List ℕ) → Replays setup bodies m → n ≡ length bodies
    → IsDamagedAfter bodies file → IsDamagedAt setup n file
damaged_after setup n bodies m file replays number cut = record {
  history = events_of bodies;
  before = many_events setup bodies m replays ∙ sym number;
  machine = m;
  runs = replays.runs;
  at = inl (subst (λ bs. IsDamagedAfter bs file) replays.texts cut);
}
