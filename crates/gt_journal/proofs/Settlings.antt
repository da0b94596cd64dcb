-- What a settling leaves of a journal with a body in doubt, at each of its exits.
use Rattle.std.proofs.Common.{◌≡◌, ℕ, ◌+◌, List, [], ◌∷◌, ◌++◌, None, Some, length, take, drop, refl, sym, ◌∙◌, ap, arith, length-append}
use Rattle.std.specs.Prelude.{IsTrue}
use Rattle.gt_causes.specs.Outcomes.{NoMore}
use Rattle.gt_disk.specs.Disk.{DiskWords, DiskLaws, LeavesOnly}
use Rattle.gt_journal.specs.JournalText.{text, Fits, IsTextWithDoubt}
use Rattle.gt_journal.specs.Gates.{Closed, InDoubt, IsGateAt, Keeps}
use Rattle.gt_journal.specs.Journal.{bodies_of, journal_of, IsConsistent}
use Rattle.gt_journal.specs.Calls.{IsAdded, IsUnsettled, StaysWith}
use Rattle.gt_journal.proofs.Texts.{length-frame, front_reads}
use Rattle.gt_journal.proofs.Fronts.{front_more}
use Rattle.gt_journal.proofs.Standings.{closed_front, closed_standing, doubt_front, doubt_moments, doubt_standing, long_doubt}

module _ {D : Type 0} (words : DiskWords D) (laws : DiskLaws words) (old : D) (place size : ℕ) (buffer : List ℕ) (was : IsConsistent words old place (Some size) buffer) where
  -- the gate at the start
  pub gate_doubtful : IsTrue (words.honest old) → IsGateAt words old place (take place (words.seen old)) (InDoubt (take place (words.seen old)) (take size (drop 8 buffer)))
  gate_doubtful honest = let standing = was.told honest in record { honest = honest; is = standing.is; images = standing.images }

  fits : Fits (take size (drop 8 buffer))
  fits = omega (arith, long_doubt place size buffer was.pends, was.pends.small)

  module _ (new : D) (honest_new : words.honest new ≡ words.honest old) (keeps : (front body : List ℕ) → IsGateAt words old place front (InDoubt front body) → Keeps words old new (InDoubt front body)) where
    pub settle_moments : IsTrue (words.honest old) → LeavesOnly words old new (IsTextWithDoubt (bodies_of (take place (words.seen old))) (Some (take size (drop 8 buffer))))
    settle_moments honest =
        let front = take place (words.seen old) in
        let body = take size (drop 8 buffer) in
        doubt_moments words (bodies_of front) front body (was.told honest).stands fits old new (keeps front body (gate_doubtful honest)).moments

    -- a fault
    pub unsettled_consistent : IsConsistent words new place (Some size) buffer
    unsettled_consistent =
        let front = take place (words.seen old) in
        let body = take size (drop 8 buffer) in
        record {
          small = was.small;
          pends = was.pends;
          size_of_buffer = was.size_of_buffer;
          told = λ honest_now.
              let honest = sym honest_new ∙ honest_now in
              let standing = was.told honest in
              doubt_standing (words.may_leave new) (words.seen new) place (bodies_of front) front body standing.stands standing.is (keeps front body (gate_doubtful honest)).images (laws.reads_now new honest_now);
        }

    pub unsettled : IsUnsettled words (journal_of words old place (Some size) buffer) (journal_of words new place (Some size) buffer)
    unsettled =
        let front = take place (words.seen old) in
        let body = take size (drop 8 buffer) in
        record {
          some = refl;
          stays = record {
            left = refl;
            place = refl;
            bodies = λ honest.
                let images = (keeps front body (gate_doubtful honest)).images in
                ap bodies_of (doubt_front front place (was.told honest).is body (words.seen new) (images (words.seen new) (laws.reads_now new (honest_new ∙ honest))));
          };
        }

    -- the body was dropped
    module _ (shut : (front body : List ℕ) → IsGateAt words old place front (InDoubt front body) → NoMore (Closed front) (words.may_leave new)) where
      pub dropped_consistent : IsConsistent words new place None buffer
      dropped_consistent =
          let front = take place (words.seen old) in
          let body = take size (drop 8 buffer) in
          record {
            small = was.small;
            pends = tt;
            size_of_buffer = was.size_of_buffer;
            told = λ honest_now.
                let honest = sym honest_new ∙ honest_now in
                let standing = was.told honest in
                closed_standing (words.may_leave new) (words.seen new) place (bodies_of front) front standing.stands standing.is (shut front body (gate_doubtful honest)) (laws.reads_now new honest_now);
          }

      pub dropped : StaysWith words (journal_of words old place (Some size) buffer) None (journal_of words new place None buffer)
      dropped =
          let front = take place (words.seen old) in
          let body = take size (drop 8 buffer) in
          record {
            left = refl;
            place = refl;
            bodies = λ honest.
                let images = shut front body (gate_doubtful honest) in ap bodies_of (closed_front front place (was.told honest).is (words.seen new) (images (words.seen new) (laws.reads_now new (honest_new ∙ honest))));
          }

    -- it was kept
    module _ (is_open : (front body : List ℕ) → IsGateAt words old place front (InDoubt front body) → NoMore (Closed (front ++ text body)) (words.may_leave new)) where
      place_more : IsTrue (words.honest old) → place + (size + 9) ≡ length (take place (words.seen old) ++ text (take size (drop 8 buffer)))
      place_more honest =
          let front = take place (words.seen old) in
          let body = take size (drop 8 buffer) in
          omega (arith, (was.told honest).is, length-append front (text body), length-frame body, long_doubt place size buffer was.pends)

      pub kept_consistent : IsConsistent words new (place + (size + 9)) None buffer
      kept_consistent =
          let front = take place (words.seen old) in
          let body = take size (drop 8 buffer) in
          record {
            small = omega (arith, was.pends.small);
            pends = tt;
            size_of_buffer = was.size_of_buffer;
            told = λ honest_now.
                let honest = sym honest_new ∙ honest_now in
                let more = front_more (bodies_of front) front body (was.told honest).stands fits in
                closed_standing (words.may_leave new) (words.seen new) (place + (size + 9)) (bodies_of front ++ body ∷ []) (front ++ text body) more (place_more honest) (is_open front body (gate_doubtful honest)) (laws.reads_now new honest_now);
          }

      pub kept : IsAdded words (journal_of words old place (Some size) buffer) (take size (drop 8 buffer)) (journal_of words new (place + (size + 9)) None buffer)
      kept =
          let front = take place (words.seen old) in
          let body = take size (drop 8 buffer) in
          record {
            clear = refl;
            place = omega (arith, long_doubt place size buffer was.pends);
            bodies = λ honest.
                let images = is_open front body (gate_doubtful honest) in
                let more = front_more (bodies_of front) front body (was.told honest).stands fits in
                ap bodies_of (closed_front (front ++ text body) (place + (size + 9)) (place_more honest) (words.seen new) (images (words.seen new) (laws.reads_now new (honest_new ∙ honest))))
                ∙ front_reads (bodies_of front ++ body ∷ []) (front ++ text body) more;
          }
