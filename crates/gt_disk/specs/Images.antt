-- What a crash may leave of a file in memory, told from the calls that it answered.
use Rattle.std.specs.Prelude.{◌≡◌, ◌⊎◌, ℕ, ◌+◌, ◌≤◌, List, [], ◌∷◌, ◌++◌, length, take, drop, Bool, true, ◌&&◌, nat_le}
use Rattle.std.proofs.Common.{subst, sym}
use Rattle.std.proofs.Math.Nat.{le_refl}
use Rattle.std.proofs.lemmas.List.{take_all}
use Rattle.gt_disk.specs.TornWrites.{Reaches}

-- a call that was answered: one that changes nothing, a write of bytes at a place, a sync
pub data Step : Type 0 where
  Look : Step
  Write : ℕ → List ℕ → Step
  Sync : Step

-- what a read gives, what the last sync left, and the place and length of each write since, the newest first
pub record State : Type 0 where
  pub seen : List ℕ
  pub synced : List ℕ
  pub writes : List (ℕ × ℕ)

-- what a crash now may leave
abbrev pub IsImage : State → List ℕ → Type 0
IsImage state c = (c ≡ state.seen) ⊎ Reaches state.synced state.writes c

-- the file with these bytes at this place
abbrev pub overlaid : List ℕ → ℕ → List ℕ → List ℕ
overlaid file at bytes = take at file ++ bytes ++ drop (at + length bytes) file

-- a step
abbrev pub after : Step → State → State
after Look state = state
after (Write at bytes) state = record { seen = overlaid state.seen at bytes; synced = state.synced; writes = (at, length bytes) ∷ state.writes }
after Sync state = record { seen = state.seen; synced = state.seen; writes = [] }

-- a file whose bytes are all synced
abbrev pub fresh : List ℕ → State
fresh bytes = record { seen = bytes; synced = bytes; writes = [] }

-- step after step
abbrev pub run : State → List Step → State
run state [] = state
run state (step ∷ steps) = run (after step state) steps

-- the state of a file that began with these bytes
abbrev pub state_of : List ℕ → List Step → State
state_of start steps = run (fresh start) steps

-- a write begins within the file
abbrev pub begins_within : State → Step → Bool
begins_within state Look = true
begins_within state (Write at bytes) = nat_le at (length state.seen)
begins_within state Sync = true

-- each write began within the file as it was then
abbrev pub are_within : State → List Step → Bool
are_within state [] = true
are_within state (step ∷ steps) = begins_within state step && are_within (after step state) steps

-- what a crash at some moment since t might have left
abbrev pub LeftSince : List ℕ → List Step → ℕ → List ℕ → Type 0
LeftSince start steps t c = (k : ℕ) × (t ≤ k) × (k ≤ length steps) × IsImage (state_of start (take k steps)) c

-- this moment is one of those since an earlier one
pub counts : (start : List ℕ) (steps : List Step) (t : ℕ) (c : List ℕ) → t ≤ length steps → IsImage (state_of start steps) c → LeftSince start steps t c
counts start steps t c le image = (length steps, le, le_refl (length steps), subst (λ (done : List Step). IsImage (state_of start done) c) (sym (take_all (length steps) steps (le_refl (length steps)))) image)

-- since this moment there is no other
pub only : (start : List ℕ) (steps : List Step) (c : List ℕ) → LeftSince start steps (length steps) c → IsImage (state_of start steps) c
only start steps c (k, from, to, image) = subst (λ (done : List Step). IsImage (state_of start done) c) (take_all k steps from) image
