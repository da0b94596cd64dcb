-- One step more of a file in memory, and what it makes of the images.
use Rattle.std.proofs.Common.{◌≡◌, inl, inr, ℕ, ◌+◌, ◌<◌, ◌≤◌, ◌^◌, Bool, true, false, ◌&&◌, List, [], ◌∷◌, ◌++◌, length, take, drop, refl, sym, ◌∙◌, ap, subst, arith, append_assoc, length-append, length-take, length-drop, rules}
use Rattle.std.proofs.lemmas.List.{take_at, drop_at, take_all, take-append-le}
use Rattle.std.proofs.lemmas.Bool.{cases_lt}
use Rattle.gt_causes.specs.Counts.{Counts}
use Rattle.gt_causes.specs.Outcomes.{Follows, Only}
use Rattle.gt_disk.specs.Disk.{Torn, Elapses}
use Rattle.gt_disk.specs.Images.{State, Step, Write, Sync, IsImage, overlaid, after, fresh, run, state_of, begins_within, are_within}
use Rattle.gt_disk.specs.MemFile.{IsReplayed, MemFile, file_words}

pub run-push : (state : State) (steps : List Step) (step : Step) → run state (steps ++ step ∷ []) ≡ after step (run state steps)
run-push state [] step = refl
run-push state (first ∷ steps) step = run-push (after first state) steps step

within-push : (state : State) (steps : List Step) (step : Step) → are_within state steps ≡ true → begins_within (run state steps) step ≡ true → are_within state (steps ++ step ∷ []) ≡ true
within-push state [] step before now = ap (λ (b : Bool). b && true) now
within-push state (first ∷ steps) step before now = elim (begins_within state first) as (λ (b : Bool). b && are_within (after first state) steps ≡ true → b && are_within (after first state) (steps ++ step ∷ []) ≡ true) [
  | true ↦ λ rest. within-push (after first state) steps step rest now
  | false ↦ λ rest. rest
] before

pub torn_overlaid : (file : List ℕ) (at : ℕ) (bytes : List ℕ) → at ≤ length file → Torn at (length bytes) file (overlaid file at bytes)
torn_overlaid file at bytes within =
    let front = take at file in
    let back = drop (at + length bytes) file in
    let long : length front ≡ at = omega (arith, length-take at file, within) in
    let both : length (front ++ bytes) ≡ at + length bytes = omega (arith, length-append front bytes, long) in
    record {
      before = ap (λ (l : List ℕ). take at l) (append_assoc front bytes back) ∙ take_at front (bytes ++ back) at long;
      after = drop_at (front ++ bytes) back (at + length bytes) both;
      no_shorter = omega (arith, length-append (front ++ bytes) back, both, length-drop (at + length bytes) file);
      no_longer = omega (arith, length-append (front ++ bytes) back, both, length-drop (at + length bytes) file);
    }

module _ (start : List ℕ) (steps later : List Step) (step : Step) (is : later ≡ steps ++ step ∷ []) where
  pub state_more : state_of start later ≡ after step (state_of start steps)
  state_more = ap (λ (done : List Step). state_of start done) is ∙ run-push (fresh start) steps step

  pub replayed_more : (bytes now : List ℕ) → IsReplayed start steps bytes → begins_within (state_of start steps) step ≡ true → now ≡ (after step (state_of start steps)).seen → length now < 2 ^ 63 → IsReplayed start later now
  replayed_more bytes now before begins seen small = record {
    is = seen ∙ sym (ap (λ (s : State). s.seen) state_more);
    small = small;
    within = subst (λ (done : List Step). are_within (fresh start) done ≡ true) (sym is) (within-push (fresh start) steps step before.within begins);
  }

-- one step more, whatever is counted
pub elapses_more : (old : MemFile) (counts : Counts) (step : Step) → Elapses file_words old (record old { steps = old.steps ++ step ∷ []; counts = counts })
elapses_more old counts step =
    let steps = old.steps in
    let later = steps ++ step ∷ [] in
    let longer : length later ≡ length steps + 1 = length-append steps (step ∷ []) in
    let front : (k : ℕ) → k ≤ length steps → take k later ≡ take k steps = λ k le. take-append-le k steps (step ∷ []) le in
    record {
      later = omega (arith, longer);
      nothing_else = λ t c le left. elim (cases_lt left.0 (length steps + 1)) [
        | inl early ↦ inl (left.0, left.1, omega (arith, early), subst (λ (done : List Step). IsImage (state_of old.start done) c) (front left.0 (omega (arith, early))) left.3)
        | inr last ↦ inr (subst (λ (done : List Step). IsImage (state_of old.start done) c) (take_all left.0 later (omega (arith, last, longer))) left.3)
      ];
      keeps = λ t c le left. (left.0, left.1, omega (arith, left.2, longer), subst (λ (done : List Step). IsImage (state_of old.start done) c) (sym (front left.0 left.2)) left.3);
    }

pub elapses_not : (old : MemFile) (counts : Counts) → Elapses file_words old (record old { counts = counts })
elapses_not old counts = record { later = omega arith; nothing_else = λ t c le left. inl left; keeps = λ t c le left. left }

-- a write leaves what it may have torn
pub write_follows : (state : State) (at : ℕ) (bytes : List ℕ) → at ≤ length state.seen → Follows (Torn at (length bytes)) (IsImage state) (IsImage (after (Write at bytes) state))
write_follows state at bytes within c (inl seen) = (state.seen, inl refl, subst (λ f. Torn at (length bytes) state.seen f) (sym seen) (torn_overlaid state.seen at bytes within))
write_follows state at bytes within c (inr reached) = (reached.0, inr reached.1, reached.2)

-- a sync leaves what a read gives
pub sync_leaves : (state : State) → Only state.seen (IsImage (after Sync state))
sync_leaves state c (inl seen) = seen
sync_leaves state c (inr synced) = synced

pub begins_true : (state : State) (at : ℕ) (bytes : List ℕ) → at ≤ length state.seen → begins_within state (Write at bytes) ≡ true
begins_true state at bytes within = search rules
