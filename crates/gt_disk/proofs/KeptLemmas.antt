-- What is kept of one step more, and that it is one of the images.
use Rattle.std.proofs.Common.{◌≡◌, ◌⊎◌, inl, inr, ⊎_elim, ℕ, ◌+◌, ◌-◌, ◌<◌, ◌≤◌, Bool, true, false, ◌&&◌, List, [], ◌∷◌, ◌++◌, length, take, drop, get_or, refl, sym, ◌∙◌, ap, subst, arith, rules}
use Rattle.std.proofs.lemmas.List.{length-map, get_or-map, drop_more, take_more, take_all}
use Rattle.std.proofs.lemmas.Bool.{cases_lt}
use Rattle.gt_disk.specs.Disk.{Torn as IsTorn}
use Rattle.gt_disk.specs.TornWrites.{Reaches, greatest, BeginWithin}
use Rattle.gt_disk.specs.Images.{State, Step, Look, Write, Sync, IsImage, overlaid, after, fresh, run, begins_within, are_within}
use Rattle.gt_disk.specs.MemFile.{IsTornFrom, IsKept, step_of, steps_of}
use Rattle.gt_disk.specs.declared.call.Call.{Call}
use Rattle.gt_disk.specs.declared.keep.Keep.{Keep}
use Rattle.gt_disk.specs.declared.keep.Keep.TheVariants.{Synced, Written, Torn}
use Rattle.gt_disk.proofs.Overlaid.{length-overlaid, overlaid-inside, overlaid-outside}
use Rattle.gt_disk.proofs.Prose.{no_more, no_less}
use Rattle.gt_disk.proofs.Replay.{torn_overlaid, run-push}

-- a place is in the range or it isn't
sides : (at n i : ℕ) → ((i < at) ⊎ (at + n ≤ i)) ⊎ ((at ≤ i) × (i < at + n))
sides at n i = elim (cases_lt i at) [
  | inl front ↦ inl (inl front)
  | inr past ↦ elim (cases_lt i (at + n)) [ inl middle ↦ inr (past, middle) | inr back ↦ inl (inr back) ]
]

module _ (from : ℕ) (state : State) (c : List ℕ) (at : ℕ) (bytes torn : List ℕ) (within : at ≤ length state.seen) (kept : IsTornFrom from state c) (same : length torn ≡ length bytes)
    (front : (i : ℕ) → i < from - at → get_or torn i 0 ≡ get_or bytes i 0) (ones : (i : ℕ) → from - at ≤ i → i < length bytes → get_or torn i 0 ≡ 1) where
  within_c : at ≤ length c
  within_c = omega (arith, kept.same_length, within)

  out_of_range : (i : ℕ) → (i < at) ⊎ (at + length bytes ≤ i) → get_or c i 0 ≡ get_or state.seen i 0 → get_or (overlaid c at torn) i 0 ≡ get_or (overlaid state.seen at bytes) i 0
  out_of_range i out was =
      overlaid-outside c at torn within_c i (subst (λ n. (i < at) ⊎ (at + n ≤ i)) (sym same) out) ∙ was ∙ sym (overlaid-outside state.seen at bytes within i out)

  pub torn_more : IsTornFrom from (after (Write at bytes) state) (overlaid c at torn)
  torn_more = record {
    same_length = omega (arith, length-overlaid c at torn within_c, length-overlaid state.seen at bytes within, same, kept.same_length);
    before = λ i low. elim (sides at (length bytes) i) [
      | inl out ↦ out_of_range i out (kept.before i low)
      | inr inside ↦
          overlaid-inside c at torn within_c i inside.0 (omega (arith, inside.1, same)) ∙ front (i - at) (omega (arith, low, inside.0)) ∙ sym (overlaid-inside state.seen at bytes within i inside.0 inside.1)
    ];
    outside = λ i out. out_of_range i out.0 (kept.outside i out.1);
    ones = λ i high low not. elim (sides at (length bytes) i) [
      | inl out ↦
          overlaid-outside c at torn within_c i (subst (λ n. (i < at) ⊎ (at + n ≤ i)) (sym same) out)
          ∙ kept.ones i high (⊎_elim (λ (below : i < at). omega (arith, below, within)) (λ (above : at + length bytes ≤ i). omega (arith, above, low, length-overlaid state.seen at bytes within)) out) (λ others. not (out, others))
      | inr inside ↦ overlaid-inside c at torn within_c i inside.0 (omega (arith, inside.1, same)) ∙ ones (i - at) (omega (arith, high, inside.0)) (omega (arith, inside.0, inside.1))
    ];
  }

pub torn_synced : (from : ℕ) (seen : List ℕ) → IsTornFrom from (fresh seen) seen
torn_synced from seen = record {
  same_length = refl;
  before = λ i low. refl;
  outside = λ i out. refl;
  ones = λ i high low not. absurd (not tt);
}

-- a write that did nothing at all is a torn one
pub torn_not : (at n : ℕ) (d : List ℕ) → IsTorn at n d d
torn_not at n d = record { before = refl; after = refl; no_shorter = omega arith; no_longer = omega arith }

pub reaches_synced : (synced : List ℕ) (writes : List (ℕ × ℕ)) → Reaches synced writes synced
reaches_synced synced [] = refl
reaches_synced synced (write ∷ earlier) = (synced, reaches_synced synced earlier, torn_not write.0 write.1 synced)

-- what the state of a file keeps while each write begins within it
pub record IsTidy (state : State) : Type 0 where
  pub begin : BeginWithin (length state.synced) state.writes
  pub longest : greatest (length state.synced) state.writes ≡ length state.seen
  pub reached : Reaches state.synced state.writes state.seen

tidy_write : (state : State) (at : ℕ) (bytes : List ℕ) → at ≤ length state.seen → IsTidy state → IsTidy (after (Write at bytes) state)
tidy_write state at bytes within tidy = record {
  begin = (omega (arith, within, tidy.longest), tidy.begin);
  longest = omega (arith, tidy.longest, length-overlaid state.seen at bytes within);
  reached = (state.seen, tidy.reached, torn_overlaid state.seen at bytes within);
}

pub tidy_fresh : (seen : List ℕ) → IsTidy (fresh seen)
tidy_fresh seen = record { begin = tt; longest = refl; reached = refl }

pub split_and : (a b : Bool) → a && b ≡ true → (a ≡ true) × (b ≡ true)
split_and true b both = (refl, both)
split_and false b both = absurd (search rules)

pub begins : (state : State) (at : ℕ) (bytes : List ℕ) → begins_within state (Write at bytes) ≡ true → at ≤ length state.seen
begins state at bytes is = search rules

tidy_step : (state : State) (step : Step) → begins_within state step ≡ true → IsTidy state → IsTidy (after step state)
tidy_step state Look is tidy = tidy
tidy_step state (Write at bytes) is tidy = tidy_write state at bytes (begins state at bytes is) tidy
tidy_step state Sync is tidy = tidy_fresh state.seen

pub tidy_run : (state : State) (steps : List Step) → are_within state steps ≡ true → IsTidy state → IsTidy (run state steps)
tidy_run state [] within tidy = tidy
tidy_run state (step ∷ steps) within tidy =
    let both = split_and (begins_within state step) (are_within (after step state) steps) within in tidy_run (after step state) steps both.1 (tidy_step state step both.0 tidy)

pub torn_image : (from : ℕ) (state : State) (c : List ℕ) → IsTidy state → IsTornFrom from state c → IsImage state c
torn_image from state c tidy kept =
    let seen = no_more state.synced state.writes state.seen tidy.reached in
    inr (no_less state.synced state.writes c tidy.begin (record {
      no_shorter = omega (arith, kept.same_length, seen.no_shorter);
      no_longer = omega (arith, kept.same_length, seen.no_longer);
      outside = λ i low out. kept.outside i out ∙ seen.outside i low out;
    }))

-- how far the calls were made again: the file as it reads, what is left of it, and the steps to come
pub record Again (keep : Keep) (start : State) (steps : List Step) (done : ℕ) (seen left : List ℕ) : Type 0 where
  pub reads : seen ≡ (run start (take done steps)).seen
  pub kept : IsKept keep (run start (take done steps)) left
  pub within : are_within (run start (take done steps)) (drop done steps) ≡ true

pub again_more : (keep : Keep) (start : State) (steps : List Step) (done : ℕ) (step : Step) (seen left seen_now left_now : List ℕ) → Again keep start steps done seen left → done < length steps
    → get_or steps done Look ≡ step
    → ((state : State) → begins_within state step ≡ true → seen ≡ state.seen → IsKept keep state left → (seen_now ≡ (after step state).seen) × IsKept keep (after step state) left_now)
    → Again keep start steps (done + 1) seen_now left_now
again_more keep start steps done step seen left seen_now left_now again inside is makes =
    let state = run start (take done steps) in
    let split : drop done steps ≡ step ∷ drop (done + 1) steps = drop_more steps done Look inside ∙ ap (λ (s : Step). s ∷ drop (done + 1) steps) is in
    let both = split_and (begins_within state step) (are_within (after step state) (drop (done + 1) steps)) (subst (λ (l : List Step). are_within state l ≡ true) split again.within) in
    let front : take (done + 1) steps ≡ take done steps ++ step ∷ [] = take_more steps done Look inside ∙ ap (λ (s : Step). take done steps ++ s ∷ []) is in
    let next : run start (take (done + 1) steps) ≡ after step state = ap (λ (l : List Step). run start l) front ∙ run-push start (take done steps) step in
    let made = makes state both.0 again.reads again.kept in
    record {
      reads = made.0 ∙ sym (ap (λ (s : State). s.seen) next);
      kept = subst (λ s. IsKept keep s left_now) (sym next) made.1;
      within = subst (λ s. are_within s (drop (done + 1) steps) ≡ true) (sym next) both.1;
    }

pub again_all : (keep : Keep) (start : State) (steps : List Step) (done : ℕ) (seen left : List ℕ) → Again keep start steps done seen left → length steps ≤ done → IsKept keep (run start steps) left
again_all keep start steps done seen left again all = subst (λ (l : List Step). IsKept keep (run start l) left) (take_all done steps all) again.kept

pub kept_fresh : (keep : Keep) (start : List ℕ) → IsKept keep (fresh start) start
kept_fresh Synced start = refl
kept_fresh Written start = refl
kept_fresh (Torn from) start = torn_synced from start

pub kept_image : (keep : Keep) (state : State) (c : List ℕ) → IsTidy state → IsKept keep state c → IsImage state c
kept_image Synced state c tidy kept = inr (subst (λ (f : List ℕ). Reaches state.synced state.writes f) (sym kept) (reaches_synced state.synced state.writes))
kept_image Written state c tidy kept = inl kept
kept_image (Torn from) state c tidy kept = torn_image from state c tidy kept

pub step_below : (calls : List Call) (i : ℕ) → i < length calls → i < length (steps_of calls)
step_below calls i low = omega (arith, low, length-map calls step_of)

pub step_at : (calls : List Call) (i : ℕ) (call : Call) → i < length calls → call ≡ get_or calls i call → get_or (steps_of calls) i Look ≡ step_of call
step_at calls i call low is = get_or-map step_of calls i call Look low ∙ sym (ap step_of is)
