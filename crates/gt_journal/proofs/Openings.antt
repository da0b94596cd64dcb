-- What a crash leaves while a file is opened, and what is found.
use Rattle.std.proofs.Common.{◌≡◌, ◌≢◌, inl, inr, ℕ, ◌≤◌, ◌*◌, ◌+◌, ◌<◌, ◌-◌, ◌^◌, None, List, [], ◌∷◌, ◌++◌, length, take, drop, get_or, refl, sym, subst, ◌∙◌, ap, arith, length-append}
use Rattle.std.specs.Prelude.{IsTrue, Result, Ok, Err, IfErr, IsErrAnd}
use Rattle.std.proofs.lemmas.List.{drop_at, drop_more, take_all}
use Rattle.gt_causes.specs.Outcomes.{NoMore}
use Rattle.gt_disk.specs.Disk.{DiskWords, DiskLaws, Holds, LeavesOnly, LenAnswer, SyncAnswer, WriteAnswer}
use Rattle.gt_disk.specs.Moments.{started, goes_on, weaker, joined}
use Rattle.gt_journal.specs.JournalText.{texts, IsJournalText, IsDamagedAfter, IsTail, IsCutOff}
use Rattle.gt_journal.specs.Gates.{Closed, Keeps}
use Rattle.gt_journal.specs.Reading.{lists, rest_of, Reads, HasLooked}
use Rattle.gt_journal.specs.declared.reading.Reading.{Reading}
use Rattle.gt_journal.specs.Opening.{OnceSynced, IfSynced, HasSameBodies, IsDamagedAs, IsNoDamage, IsNotOpened}
use Rattle.gt_journal.specs.Journal.{bodies_of, IsConsistent}
use Rattle.gt_journal.specs.Finding.{IsEndClosed, IsFileRead, IsFound, IsShortEnd}
use Rattle.gt_journal.specs.declared.open_fault.OpenFault.{OpenFault}
use Rattle.gt_journal.specs.declared.open_fault.OpenFault.TheVariants.{JournalFault, Damaged, OutOfMemory}
use Rattle.gt_journal.proofs.Ends.{end_follows}
use Rattle.gt_journal.proofs.Runs.{begins, and_sync}
use Rattle.gt_journal.proofs.Standings.{closed_front, closed_standing}
use Rattle.gt_journal.proofs.Texts.{front_reads, texts_long}
use Rattle.gt_journal.proofs.Unique.{one_list, apart}

-- the very file has the same bodies
pub same_file : (old file : List ℕ) → file ≡ old → HasSameBodies old file
same_file old file is = record { text = λ bodies text. subst (λ f. IsJournalText bodies f) (sym is) text; damaged = λ bodies damaged. is }

-- and so has one of these bodies, where the old one is of them
pub same_text : (old file : List ℕ) (bodies : List (List ℕ)) → IsJournalText bodies old → IsJournalText bodies file → HasSameBodies old file
same_text old file bodies was is = record {
  text = λ others text. subst (λ bs. IsJournalText bs file) (one_list bodies others old was text) is;
  damaged = λ others damaged. absurd (apart bodies others old was damaged);
}

pub no_damage_as : (fault : OpenFault) (file : List ℕ) → IsNoDamage fault → IsDamagedAs fault file
no_damage_as JournalFault file none = tt
no_damage_as (Damaged at_record bodies) file none = absurd none
no_damage_as OutOfMemory file none = tt

module _ {D : Type 0} (words : DiskWords D) where
  -- the first sync
  pub first_sync : {E : Type 0} (laws : DiskLaws words) (old new : D) (result : Result Unit E) → IsTrue (words.honest old) → SyncAnswer words old result new → LeavesOnly words old new (words.may_leave old)
  first_sync laws old new result honest answer = (and_sync words old old new (words.may_leave old) result (begins words laws old (words.may_leave old) honest (λ c now. now)) answer).moments

  -- a look at the length, and at the bytes
  pub and_len : {E : Type 0} (old mid new : D) (P : List ℕ → Type 0) (result : Result ℕ E) → Keeps words old mid P → LenAnswer words mid result new → Keeps words old new P
  and_len old mid new P result so_far answer =
      let images : NoMore P (words.may_leave new) = λ c now. so_far.images c (answer.images c now) in
      record { moments = goes_on words old mid new P so_far.moments answer.time images; images = images }

  pub and_look : (old mid new : D) (P : List ℕ → Type 0) → Keeps words old mid P → HasLooked words mid new → Keeps words old new P
  and_look old mid new P so_far looked = record {
    moments = joined words old mid new P so_far.moments (weaker words mid new (words.may_leave mid) P (λ c now. so_far.images c now) looked.moments);
    images = λ c now. so_far.images c (looked.images c now);
  }

  -- behind the sync
  pub once_more : (old mid new : D) (P Q : List ℕ → Type 0) → ((c : List ℕ) → P c → Q c) → OnceSynced words old mid P → LeavesOnly words mid new Q → OnceSynced words old new Q
  once_more old mid new P Q so once then_ = record {
    synced = once.synced;
    before = once.before;
    only = once.only;
    after = joined words once.synced mid new Q (weaker words once.synced mid P Q so once.after) then_;
  }

  pub once_weaker : (old new : D) (P Q : List ℕ → Type 0) → ((c : List ℕ) → P c → Q c) → OnceSynced words old new P → OnceSynced words old new Q
  once_weaker old new P Q so once = record { synced = once.synced; before = once.before; only = once.only; after = weaker words once.synced new P Q so once.after }

  pub if_weaker : (old new : D) (P Q : List ℕ → Type 0) → ((c : List ℕ) → P c → Q c) → IfSynced words old new P → IfSynced words old new Q
  if_weaker old new P Q so (inl never) = inl never
  if_weaker old new P Q so (inr once) = inr (once_weaker old new P Q so once)

  -- the byte behind the records
  pub end_written : {E : Type 0} (laws : DiskLaws words) (disk new : D) (place : ℕ) (bodies : List (List ℕ)) (result : Result Unit E) → IsShortEnd words disk place bodies → WriteAnswer words disk place (0 ∷ []) result new
      → Keeps words disk new (IsJournalText bodies)
  end_written laws disk new place bodies result end answer =
      let P = IsJournalText bodies in
      let after : NoMore P (words.may_leave new) = end_follows bodies place (words.seen disk) (words.may_leave disk) (words.may_leave new) end.text end.only end.is end.short answer.images in
      let at_start = started words disk P (λ c left. subst P (sym (end.only c (laws.only_now disk c end.honest left))) end.text) in
      record { moments = goes_on words disk disk new P at_start answer.time after; images = after }

-- the rest behind the records
pub rest_drops : (file rest : List ℕ) (bodies : List (List ℕ)) (place : ℕ) → Reads file bodies rest → place ≡ length (texts bodies) → drop place file ≡ rest
rest_drops file rest bodies place reads is = ap (λ (l : List ℕ). drop place l) reads.whole ∙ drop_at (texts bodies) rest place (sym is)

pub place_of : (file rest : List ℕ) (bodies : List (List ℕ)) → Reads file bodies rest → length (texts bodies) + length rest ≡ length file
place_of file rest bodies reads = sym (ap length reads.whole ∙ length-append (texts bodies) rest)

pub text_of : (file rest : List ℕ) (bodies : List (List ℕ)) → Reads file bodies rest → IsTail rest → IsJournalText bodies file
text_of file rest bodies reads tail = record { fit = reads.fit; tail = rest; whole = reads.whole; is_tail = tail }

pub damage_of : (file rest : List ℕ) (bodies : List (List ℕ)) → Reads file bodies rest → IsCutOff rest → IsDamagedAfter bodies file
damage_of file rest bodies reads cut = record { fit = reads.fit; rest = rest; whole = reads.whole; cut_off = cut }

-- a rest that has room for a gate, and is a tail, begins with a closed one
gate_shut : (rest : List ℕ) → IsTail rest → 9 ≤ length rest → get_or rest 0 0 ≢ 1
gate_shut rest (inl short) long = absurd (omega (arith, short, long))
gate_shut rest (inr shut) long = shut

-- what was found behind the reading of a whole file
module _ {D : Type 0} (words : DiskWords D) (old mid : D) (reading : Reading) (size place : ℕ) (is : IsFileRead words old reading size mid) (at : place ≡ size - length (rest_of reading)) where
  pub rest_within : length (rest_of reading) ≤ size
  rest_within = omega (arith, place_of is.read.file (rest_of reading) (lists reading.bodies.items) is.read.reads, is.read.long)

  pub place_is : place ≡ length (texts (lists reading.bodies.items))
  place_is = omega (arith, at, place_of is.read.file (rest_of reading) (lists reading.bodies.items) is.read.reads, is.read.long)

  pub bodies_within : 9 * length (lists reading.bodies.items) ≤ place
  bodies_within = omega (arith, place_is, texts_long (lists reading.bodies.items))

  pub file_is : IsTrue (words.honest old) → is.read.file ≡ words.seen old
  file_is honest = is.read.told honest ∙ take_all size (words.seen old) (omega (arith, (is.told honest).long))

  pub text_found : IsTrue (words.honest old) → IsTail (rest_of reading) → IsJournalText (lists reading.bodies.items) (words.seen old)
  text_found honest tail =
      let bodies = lists reading.bodies.items in subst (λ f. IsJournalText bodies f) (file_is honest) (text_of is.read.file (rest_of reading) bodies is.read.reads tail)

  pub damage_found : IsTrue (words.honest old) → IsCutOff (rest_of reading) → IsDamagedAfter (lists reading.bodies.items) (words.seen old)
  damage_found honest cut =
      let bodies = lists reading.bodies.items in subst (λ f. IsDamagedAfter bodies f) (file_is honest) (damage_of is.read.file (rest_of reading) bodies is.read.reads cut)

  -- where the rest is too short for a gate
  pub short_end : IsTrue (words.honest old) → IsTrue (words.honest mid) → IsTail (rest_of reading) → length (rest_of reading) < 9 → IsShortEnd words mid place (lists reading.bodies.items)
  short_end honest honest_now tail short =
      let bodies = lists reading.bodies.items in
      let told = is.told honest in
      let drops : drop place (words.seen mid) ≡ rest_of reading = ap (λ (l : List ℕ). drop place l) (told.seen ∙ sym (file_is honest)) ∙ rest_drops is.read.file (rest_of reading) bodies place is.read.reads place_is in
      record {
        honest = honest_now;
        text = subst (λ f. IsJournalText bodies f) (sym told.seen) (text_found honest tail);
        only = λ c now. told.only c now ∙ sym told.seen;
        is = place_is;
        short = omega (arith, ap length drops, short);
      }

  -- and where a closed gate is there
  pub shut_end : IsTrue (words.honest old) → IsTail (rest_of reading) → 9 ≤ length (rest_of reading) → NoMore (Closed (texts (lists reading.bodies.items))) (words.may_leave mid)
  shut_end honest tail long c now =
      let rest = rest_of reading in
      record {
        gate = get_or rest 0 0;
        rest = drop 1 rest;
        whole = (is.told honest).only c now ∙ sym (file_is honest) ∙ is.read.reads.whole ∙ ap (λ (l : List ℕ). texts (lists reading.bodies.items) ++ l) (drop_more rest 0 0 (omega (arith, long)));
        shut = gate_shut rest tail long;
      }

  pub closed_end : (new : D) → IsTrue (words.honest old) → IsTail (rest_of reading) → IsEndClosed words mid place (lists reading.bodies.items) new → LeavesOnly words mid new (IsJournalText (lists reading.bodies.items))
      → IsFound words old (lists reading.bodies.items) place new
  closed_end new honest tail closed moments =
      let bodies = lists reading.bodies.items in
      let told = is.told honest in
      let text = text_found honest tail in
      record {
        is = place_is;
        text = text;
        images = closed.images;
        file = inr (subst (λ f. Holds f place (0 ∷ []) (words.seen new)) told.seen closed.written);
        any_moment = once_more words old mid new (λ c. c ≡ words.seen old) (IsJournalText bodies) (λ c same. subst (IsJournalText bodies) (sym same) text) told.any_moment moments;
      }

  pub open_end : IsTrue (words.honest old) → IsTail (rest_of reading) → 9 ≤ length (rest_of reading) → IsFound words old (lists reading.bodies.items) place mid
  open_end honest tail long =
      let bodies = lists reading.bodies.items in
      let told = is.told honest in
      let text = text_found honest tail in
      record {
        is = place_is;
        text = text;
        images = shut_end honest tail long;
        file = inl told.seen;
        any_moment = once_weaker words old mid (λ c. c ≡ words.seen old) (IsJournalText bodies) (λ c same. subst (IsJournalText bodies) (sym same) text) told.any_moment;
      }

  -- the disk failed while the end was closed
  pub end_failed : (new : D) → IsTrue (words.honest old) → IsTail (rest_of reading) → LeavesOnly words mid new (IsJournalText (lists reading.bodies.items)) → IsNotOpened words old JournalFault new
  end_failed new honest tail moments =
      let bodies = lists reading.bodies.items in
      let old_file = words.seen old in
      let text = text_found honest tail in
      let same : (c : List ℕ) → IsJournalText bodies c → HasSameBodies old_file c = λ c is_text. same_text old_file c bodies text is_text in
      record {
        damaged = tt;
        seen = inl tt;
        any_moment = inr (once_more words old mid new (λ c. c ≡ old_file) (HasSameBodies old_file) (λ c is_file. same_file old_file c is_file) (is.told honest).any_moment (weaker words mid new (IsJournalText bodies) (HasSameBodies old_file) same moments));
      }

-- a reading that failed
pub reading_failed : {D : Type 0} (words : DiskWords D) (old new : D) (fault : OpenFault) → IsNoDamage fault → IfSynced words old new (λ c. c ≡ words.seen old) → IsNotOpened words old fault new
reading_failed words old new fault none synced = record {
  damaged = no_damage_as fault (words.seen old) none;
  seen = inl none;
  any_moment = if_weaker words old new (λ c. c ≡ words.seen old) (HasSameBodies (words.seen old)) (λ c same. same_file (words.seen old) c same) synced;
}

-- the refusal is this one
pub refused_as : {A E : Type 0} (result : Result A E) (fault : E) (P : E → Type 0) → IsErrAnd result (λ e. e ≡ fault) → P fault → IfErr result P
refused_as (Ok a) fault P is holds = absurd is
refused_as (Err e) fault P is holds = subst P (sym is) holds

-- what was found, as a journal
pub found_consistent : {D : Type 0} (words : DiskWords D) (laws : DiskLaws words) (old new : D) (bodies : List (List ℕ)) (place : ℕ) (buffer : List ℕ) → words.honest new ≡ words.honest old
    → (IsTrue (words.honest old) → IsFound words old bodies place new) → place + 1 < 2 ^ 63 → 9 ≤ length buffer → IsConsistent words new place None buffer
found_consistent words laws old new bodies place buffer same found small long = record {
  small = small;
  pends = tt;
  size_of_buffer = long;
  told = λ honest_now.
      let it = found (sym same ∙ honest_now) in
      closed_standing (words.may_leave new) (words.seen new) place bodies (texts bodies) (record { fit = it.text.fit; is = refl }) it.is it.images (laws.reads_now new honest_now);
}

pub found_bodies : {D : Type 0} (words : DiskWords D) (old new : D) (bodies : List (List ℕ)) (place : ℕ) → IsFound words old bodies place new → words.may_leave new (words.seen new) → bodies_of (take place (words.seen new)) ≡ bodies
found_bodies words old new bodies place it here =
    ap bodies_of (closed_front (texts bodies) place it.is (words.seen new) (it.images (words.seen new) here)) ∙ front_reads bodies (texts bodies) (record { fit = it.text.fit; is = refl })
