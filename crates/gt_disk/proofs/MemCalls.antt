-- What a call of a file in memory makes of its images and its moments.
use Rattle.std.proofs.Common.{◌≡◌, ◌⊎◌, inl, inr, ℕ, ◌≤◌, List, [], ◌∷◌, ◌++◌, length, take, drop, Result, Ok, Err, IfOk, OnOk, IsErr, refl, sym, ◌∙◌, ap, subst}
use Rattle.std.proofs.Math.Nat.{le_refl}
use Rattle.gt_causes.specs.Causes.{HasFailed, Rose}
use Rattle.gt_causes.specs.Counts.{Counts, counted}
use Rattle.gt_disk.specs.Disk.{Torn, Holds, Elapses, LenAnswer, ReadAnswer, WriteAnswer, SyncAnswer}
use Rattle.gt_causes.specs.Outcomes.{Only}
use Rattle.gt_disk.specs.Images.{State, Step, Look, Write, Sync, IsImage, after, state_of}
use Rattle.gt_disk.specs.MemFile.{MemFile, IsCall, seen_of, file_words}
use Rattle.gt_disk.proofs.Replay.{state_more, elapses_more, elapses_not, write_follows, sync_leaves, torn_overlaid}
use Rattle.gt_disk.proofs.KeptLemmas.{torn_not}

-- the state that a file's calls made
abbrev state : MemFile → State
state file = state_of file.start file.steps

module _ {T E : Type 0} (old new : MemFile) (step : Step) (IsTooLong : Type 0) where
  -- the step is noted, or the file is as before
  pub outcome : (result : Result T E) → IsCall old new step IsTooLong result → (state new ≡ after step (state old)) ⊎ (state new ≡ state old)
  outcome (Ok value) call = inl (ap state call.ok ∙ state_more old.start old.steps (old.steps ++ step ∷ []) step refl)
  outcome (Err error) call = inr (ap state (call.err refl))

  -- one that fails counts it
  pub failed : (result : Result T E) → IsCall old new step IsTooLong result → IsErr result → HasFailed file_words.faults old new
  failed result call err = elim (call.counted.err err) [
    | inl is ↦ subst (λ (c : Counts). Rose old.counts.faults c.faults) (sym is.0) (le_refl (counted old.counts.faults))
    | inr is ↦ subst (λ (c : Counts). Rose old.counts.faults c.faults) (sym is) (le_refl (counted old.counts.faults))
  ]

  pub on_ok : (result : Result T E) (P : Type 0) → IsCall old new step IsTooLong result → (state new ≡ after step (state old) → P) → OnOk result P
  on_ok (Ok value) P call so = so (ap state call.ok ∙ state_more old.start old.steps (old.steps ++ step ∷ []) step refl)
  on_ok (Err error) P call so = tt

  pub time : (result : Result T E) → IsCall old new step IsTooLong result → Elapses file_words old new
  time (Ok value) call = subst (Elapses file_words old) (sym call.ok) (elapses_more old new.counts step)
  time (Err error) call = subst (Elapses file_words old) (sym (call.err refl)) (elapses_not old new.counts)

module _ {E : Type 0} (old new : MemFile) where
  looked : {T : Type 0} (result : Result T E) → IsCall old new Look ⊥ result → state new ≡ state old
  looked result call = elim (outcome old new Look ⊥ result call) [ inl is ↦ is | inr is ↦ is ]

  pub len_answer : (result : Result ℕ E) → IsCall old new Look ⊥ result → IfOk result (λ n. n ≡ length (seen_of old)) → LenAnswer file_words old result new
  len_answer result call is = record {
    ok = is;
    seen = ap (λ (s : State). s.seen) (looked result call);
    images = λ c image. subst (λ s. IsImage s c) (looked result call) image;
    time = time old new Look ⊥ result call;
  }

  pub read_answer : (result : Result Unit E) (at : ℕ) (before after : List ℕ) → IsCall old new Look ⊥ result → OnOk result (after ≡ take (length before) (drop at (seen_of old)))
      → ReadAnswer file_words old at before result after new
  read_answer result at before after call is = record {
    ok = is;
    seen = ap (λ (s : State). s.seen) (looked result call);
    images = λ c image. subst (λ s. IsImage s c) (looked result call) image;
    time = time old new Look ⊥ result call;
  }

  pub sync_answer : (result : Result Unit E) → IsCall old new Sync ⊥ result → SyncAnswer file_words old result new
  sync_answer result call = record {
    ok = on_ok old new Sync ⊥ result (seen_of new ≡ seen_of old) call (λ is. ap (λ (s : State). s.seen) is);
    durable = on_ok old new Sync ⊥ result (Only (seen_of old) (file_words.may_leave new)) call (λ is. λ c image. sync_leaves (state old) c (subst (λ s. IsImage s c) is image));
    images = λ c image. elim (outcome old new Sync ⊥ result call) [
      | inl is ↦ inl (sync_leaves (state old) c (subst (λ s. IsImage s c) is image))
      | inr is ↦ subst (λ s. IsImage s c) is image
    ];
    time = time old new Sync ⊥ result call;
  }

  module _ (at : ℕ) (bytes : List ℕ) (IsTooLong : Type 0) (within : at ≤ length (seen_of old)) where
    pub write_answer : (result : Result Unit E) → IsCall old new (Write at bytes) IsTooLong result → WriteAnswer file_words old at bytes result new
    write_answer result call = record {
      ok = on_ok old new (Write at bytes) IsTooLong result (Holds (seen_of old) at bytes (seen_of new)) call (λ is. ap (λ (s : State). s.seen) is);
      others = elim (outcome old new (Write at bytes) IsTooLong result call) [
        | inl is ↦ subst (λ (s : State). Torn at (length bytes) (seen_of old) s.seen) (sym is) (torn_overlaid (seen_of old) at bytes within)
        | inr is ↦ subst (λ (s : State). Torn at (length bytes) (seen_of old) s.seen) (sym is) (torn_not at (length bytes) (seen_of old))
      ];
      images = λ c image. elim (outcome old new (Write at bytes) IsTooLong result call) [
        | inl is ↦ write_follows (state old) at bytes within c (subst (λ s. IsImage s c) is image)
        | inr is ↦ (c, subst (λ s. IsImage s c) is image, torn_not at (length bytes) c)
      ];
      time = time old new (Write at bytes) IsTooLong result call;
    }
