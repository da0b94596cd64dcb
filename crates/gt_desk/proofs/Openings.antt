-- A desk's disk, opened.
use Rattle.std.proofs.Common.{◌≡◌, ℕ, ◌*◌, ◌≤◌, List, IsTrue, None, append-nil, ap, inl, inr, map, refl, subst, sym, ◌∙◌}
use Rattle.gt_desk.specs.Desk.{IsConsistent, desk_of, events_of}
use Rattle.gt_desk.specs.History.{Ledger, StandsDuring, StandsFor}
use Rattle.gt_desk.specs.Opening.{IsOpened}
use Rattle.gt_desk.specs.Replay.{Replays}
use Rattle.gt_desk.proofs.Standing.{stands_for}
use Rattle.gt_disk.specs.Disk.{DiskWords}
use Rattle.gt_disk.specs.Moments.{weaker}
use Rattle.gt_journal.specs.Journal.{Journal, Rests}
use Rattle.gt_journal.specs.JournalText.{IsDamagedAfter, IsJournalText}
use Rattle.gt_journal.specs.Opening as journal
use Rattle.gt_journal.specs.Opening.{HasSameBodies, IfSynced, OnceSynced}
use Rattle.gt_machine.specs.Change.{Held}
use Rattle.gt_machine.specs.Run.{IsReached, run_of}
use Rattle.gt_records.specs.RecordText.{record_text}
use Rattle.gt_setup.specs.Setup.{Setup}

module _ {D : Type 0} (words : DiskWords D) (setup : Setup) (disk : D) (read : List (List ℕ)) (state : Held) (replays : Replays setup read state.machine) (j : Journal D)
    (opens : IsTrue (words.honest disk) → journal.IsOpened words disk read j) where
  abbrev found : Ledger
  found = record { history = events_of read; machine = state.machine; doubt = None }

  -- a text of these bodies stands for their events
  reads : (c : List ℕ) → IsJournalText read c → StandsFor setup (events_of read) c
  reads c file = stands_for setup read state.machine replays.texts replays.runs c file

  after : (new : D) (ledger : Ledger) → OnceSynced words disk new (IsJournalText read) → OnceSynced words disk new (StandsDuring setup found ledger)
  after new ledger once = record {
    synced = once.synced;
    before = once.before;
    only = once.only;
    after = weaker words once.synced new (IsJournalText read) (StandsDuring setup found ledger) (λ c file. inl (reads c file)) once.after;
  }

  pub opened : IsOpened words setup disk (desk_of setup state None j)
  opened = record {
    found = found;
    file = λ t. reads (words.seen disk) (opens t).text;
    opens = record { found_runs = replays.runs; found_clear = refl; moves = refl; clear = refl };
    history = λ t. ap events_of (opens t).is ∙ sym (append-nil (events_of read));
    crashes = λ t. after j.disk (desk_of setup state None j).ledger (opens t).any_moment;
  }

  pub opened_consistent : IsReached setup state.machine → 9 * state.machine.events ≤ j.place → j.doubt ≡ None → Rests words j → (IsTrue (words.honest j.disk) → IsTrue (words.honest disk)) → IsConsistent words setup state None j
  opened_consistent reached few clear rests honest = record {
    reached = reached;
    few = few;
    pending = tt;
    text = clear;
    told = λ t.
        let is = (opens (honest t)).is in
        record {
          texts = is ∙ replays.texts ∙ ap (λ (bs : List (List ℕ)). map record_text (events_of bs)) (sym is);
          runs = ap (λ (bs : List (List ℕ)). run_of setup (events_of bs)) is ∙ replays.runs;
          images = rests.images t;
        };
  }

-- what was opened, and then not replayed, leaves files of the same bodies
pub not_replayed : {D : Type 0} (words : DiskWords D) (disk new : D) (read : List (List ℕ)) → IsJournalText read (words.seen disk)
    → ((xs ys : List (List ℕ)) (file : List ℕ) → IsJournalText xs file → IsJournalText ys file → xs ≡ ys) → ((xs ys : List (List ℕ)) (file : List ℕ) → IsJournalText xs file → IsDamagedAfter ys file → ⊥)
    → OnceSynced words disk new (IsJournalText read) → IfSynced words disk new (HasSameBodies (words.seen disk))
not_replayed words disk new read text one apart once = inr (record {
  synced = once.synced;
  before = once.before;
  only = once.only;
  after = weaker words once.synced new (IsJournalText read) (HasSameBodies (words.seen disk))
      (λ c file. record {
        text = λ bodies is. subst (λ bs. IsJournalText bs c) (one read bodies (words.seen disk) text is) file;
        damaged = λ bodies is. absurd (apart read bodies (words.seen disk) text is);
      }) once.after;
})
