-- What an append leaves of a journal, at each of its exits.
use Rattle.std.proofs.Common.{◌≡◌, ℕ, ◌+◌, ◌<◌, ◌≤◌, ◌^◌, List, [], ◌∷◌, ◌++◌, Option, None, Some, length, take, refl, sym, ◌∙◌, ap, subst, arith, length-append}
use Rattle.std.specs.Prelude.{IsTrue}
use Rattle.gt_causes.specs.Outcomes.{NoMore}
use Rattle.gt_disk.specs.Disk.{DiskWords, DiskLaws, LeavesOnly}
use Rattle.gt_journal.specs.JournalText.{frame, text, Fits, IsTextWithDoubt}
use Rattle.gt_journal.specs.Gates.{Closed, Doubtful, InDoubt, IsGateAt, Keeps}
use Rattle.gt_journal.specs.Journal.{bodies_of, doubt_of, journal_of, IsConsistent, Standing}
use Rattle.gt_journal.specs.Calls.{IsAdded, IsUnwritten, StaysWith}
use Rattle.gt_journal.proofs.Steps.{kept}
use Rattle.gt_journal.proofs.Texts.{length-frame, front_reads}
use Rattle.gt_journal.proofs.Fronts.{front_more}
use Rattle.gt_journal.proofs.Standings.{append_moments, body_in, closed_front, closed_standing, doubt_front, doubt_standing, no_pending, settled_images, stage_moments, staged_moments}

module _ {D : Type 0} (words : DiskWords D) (laws : DiskLaws words) (old : D) (place : ℕ) (pending : Option ℕ) (buffer : List ℕ) (was : IsConsistent words old place pending buffer) (none : doubt_of pending buffer ≡ None) where
  -- the gate at the start
  pub gate_shut : IsTrue (words.honest old) → IsGateAt words old place (take place (words.seen old)) (Closed (take place (words.seen old)))
  gate_shut honest =
      let front = take place (words.seen old) in
      let standing = was.told honest in
      record { honest = honest; is = standing.is; images = settled_images (words.may_leave old) place front (doubt_of pending buffer) standing none }

  module _ (mid : D) (honest_mid : words.honest mid ≡ words.honest old) (staged : (front : List ℕ) → IsGateAt words old place front (Closed front) → Keeps words old mid (Closed front)) (buffer' : List ℕ) (long : 9 ≤ length buffer') where
    -- a fault of the first two calls
    pub unwritten_consistent : IsConsistent words mid place pending buffer'
    unwritten_consistent =
        let front = take place (words.seen old) in
        let made : IsConsistent words mid place None buffer' = record {
          small = was.small;
          pends = tt;
          size_of_buffer = long;
          told = λ honest_now.
              let honest = sym honest_mid ∙ honest_now in
              let standing = was.told honest in
              closed_standing (words.may_leave mid) (words.seen mid) place (bodies_of front) front standing.stands standing.is (staged front (gate_shut honest)).images (laws.reads_now mid honest_now);
        } in
        subst (λ p. IsConsistent words mid place p buffer') (sym (no_pending pending buffer none)) made

    pub unwritten : IsUnwritten words (journal_of words old place pending buffer) (journal_of words mid place pending buffer')
    unwritten =
        let front = take place (words.seen old) in
        record {
          stays = record {
            left = ap (λ p. doubt_of p buffer') (no_pending pending buffer none);
            place = refl;
            bodies = λ honest.
                let images = (staged front (gate_shut honest)).images in
                ap bodies_of (closed_front front place (was.told honest).is (words.seen mid) (images (words.seen mid) (laws.reads_now mid (honest_mid ∙ honest))));
          };
          any_moment = λ honest. staged_moments words (bodies_of front) front [] (was.told honest).stands old mid (staged front (gate_shut honest)).moments;
        }

    pub unwritten_moments : (body : List ℕ) → IsTrue (words.honest old) → LeavesOnly words old mid (IsTextWithDoubt (bodies_of (take place (words.seen old))) (Some body))
    unwritten_moments body honest = let front = take place (words.seen old) in stage_moments words (bodies_of front) front body (was.told honest).stands old mid (staged front (gate_shut honest)).moments

    module _ (body bytes : List ℕ) (spelled : bytes ≡ frame body ++ 0 ∷ []) (is_bytes : take (length body + 9) buffer' ≡ bytes) (room : place + 1 + length bytes < 2 ^ 63)
        (in_doubt : (front body : List ℕ) → IsGateAt words old place front (Closed front) → bytes ≡ frame body ++ 0 ∷ [] → NoMore (InDoubt front body) (words.may_leave mid)) where
      pub small : place + length body + 10 < 2 ^ 63
      small = omega (arith, room, ap length spelled, length-append (frame body) (0 ∷ []), length-frame body)

      fits : Fits body
      fits = omega (arith, small)

      -- the gate behind the first two calls
      pub gate_doubtful : IsTrue (words.honest mid) → IsGateAt words mid place (take place (words.seen old)) (InDoubt (take place (words.seen old)) body)
      gate_doubtful honest_now =
          let honest = sym honest_mid ∙ honest_now in
          let front = take place (words.seen old) in
          record { honest = honest_now; is = (was.told honest).is; images = in_doubt front body (gate_shut honest) spelled }

      module _ (new : D) (honest_new : words.honest new ≡ words.honest mid) (set : (front body : List ℕ) → IsGateAt words mid place front (InDoubt front body) → Keeps words mid new (InDoubt front body)) where
        -- a fault of the last two
        pub doubted_consistent : length body + 9 ≤ length buffer' → IsConsistent words new place (Some (length body)) buffer'
        doubted_consistent buffered =
            let front = take place (words.seen old) in
            record {
              small = was.small;
              pends = record { small = small; buffered = buffered };
              size_of_buffer = long;
              told = λ honest_now.
                  let honest_then = sym honest_new ∙ honest_now in
                  let standing = was.told (sym honest_mid ∙ honest_then) in
                  let images = (set front body (gate_doubtful honest_then)).images in
                  subst (λ b. Standing (words.may_leave new) place (take place (words.seen new)) (Some b)) (sym (body_in body buffer' (is_bytes ∙ spelled)))
                  (doubt_standing (words.may_leave new) (words.seen new) place (bodies_of front) front body standing.stands standing.is images (laws.reads_now new honest_now));
            }

        pub doubted : StaysWith words (journal_of words old place pending buffer) (Some body) (journal_of words new place (Some (length body)) buffer')
        doubted =
            let front = take place (words.seen old) in
            record {
              left = ap (λ (b : List ℕ). Some b) (body_in body buffer' (is_bytes ∙ spelled));
              place = refl;
              bodies = λ honest.
                  let honest_then = honest_mid ∙ honest in
                  let images = (set front body (gate_doubtful honest_then)).images in
                  ap bodies_of (doubt_front front place (was.told honest).is body (words.seen new) (images (words.seen new) (laws.reads_now new (honest_new ∙ honest_then))));
            }

        pub append_run : IsTrue (words.honest old) → LeavesOnly words old new (IsTextWithDoubt (bodies_of (take place (words.seen old))) (Some body))
        append_run honest =
            let front = take place (words.seen old) in
            append_moments words (bodies_of front) front body (was.told honest).stands fits old mid new (staged front (gate_shut honest)).moments (set front body (gate_doubtful (honest_mid ∙ honest))).moments

        -- after all four
        module _ (is_open : (front body : List ℕ) → IsGateAt words mid place front (InDoubt front body) → NoMore (Doubtful front body 1) (words.may_leave new)) where
          now_closed : IsTrue (words.honest mid) → NoMore (Closed (take place (words.seen old) ++ text body)) (words.may_leave new)
          now_closed honest_then c now = let front = take place (words.seen old) in kept front body c (is_open front body (gate_doubtful honest_then) c now)

          place_more : IsTrue (words.honest old) → place + (length body + 9) ≡ length (take place (words.seen old) ++ text body)
          place_more honest = let front = take place (words.seen old) in omega (arith, (was.told honest).is, length-append front (text body), length-frame body)

          pub added_consistent : IsConsistent words new (place + (length body + 9)) None buffer'
          added_consistent =
              let front = take place (words.seen old) in
              record {
                small = omega (arith, small);
                pends = tt;
                size_of_buffer = long;
                told = λ honest_now.
                    let honest_then = sym honest_new ∙ honest_now in
                    let honest = sym honest_mid ∙ honest_then in
                    let more = front_more (bodies_of front) front body (was.told honest).stands fits in
                    closed_standing (words.may_leave new) (words.seen new) (place + (length body + 9)) (bodies_of front ++ body ∷ []) (front ++ text body) more (place_more honest) (now_closed honest_then)
                    (laws.reads_now new honest_now);
              }

          pub added : IsAdded words (journal_of words old place pending buffer) body (journal_of words new (place + (length body + 9)) None buffer')
          added =
              let front = take place (words.seen old) in
              record {
                clear = refl;
                place = omega arith;
                bodies = λ honest.
                    let honest_then = honest_mid ∙ honest in
                    let images = now_closed honest_then in
                    let more = front_more (bodies_of front) front body (was.told honest).stands fits in
                    ap bodies_of (closed_front (front ++ text body) (place + (length body + 9)) (place_more honest) (words.seen new) (images (words.seen new) (laws.reads_now new (honest_new ∙ honest_then))))
                    ∙ front_reads (bodies_of front ++ body ∷ []) (front ++ text body) more;
              }
