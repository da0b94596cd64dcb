-- What is said of a door in one word, and what its calls do.
use Rattle.std.specs.Prelude.{Bool, Err, List, None, Ok, Option, Result, Some, [], false, true, ◌++◌, ◌∷◌, ◌≡◌, ◌≤◌, ℕ}

-- All that is said of a door, whose links are of the type `L`. Which links it handed out and which were given back is told
-- by doors in memory, and isn't by real ones.
pub record DoorWords (D L : Type 0) : Type 1 where
  -- how often a call for a link has failed: a number that never falls, and stops at 2^64 - 1
  pub faults : D → ℕ
  -- the link handed out last isn't back yet
  pub is_out : D → Bool
  -- the last call for a link answered that none will come
  pub has_ended : D → Bool
  -- it tells its links
  pub told : D → Bool
  -- the links handed out, in order, each as it was then
  pub handed : D → List L
  -- the links given back, in order, each as it was then
  pub back : D → List L

-- a door that tells nothing of its links
abbrev pub untold_door : {D L : Type 0} → (D → ℕ) → (D → Bool) → (D → Bool) → DoorWords D L
untold_door faults is_out has_ended = record { faults = faults; is_out = is_out; has_ended = has_ended; told = λ d. false; handed = λ d. []; back = λ d. [] }

-- what each call keeps: the count of faults doesn't fall
pub record IsSameDoor {D L : Type 0} (words : DoorWords D L) (old new : D) : Type 0 where
  pub later : words.faults old ≤ words.faults new
  pub told : words.told new ≡ words.told old

-- an answer hands out a link
abbrev pub hands_out : {L E : Type 0} → Result (Option L) E → Bool
hands_out (Ok (Some link)) = true
hands_out (Ok None) = false
hands_out (Err fault) = false

-- an answer says that no link will come
abbrev pub is_last : {L E : Type 0} → Result (Option L) E → Bool
is_last (Ok (Some link)) = false
is_last (Ok None) = true
is_last (Err fault) = false

-- the link that an answer hands out
abbrev pub links_of : {L E : Type 0} → Result (Option L) E → List L
links_of (Ok (Some link)) = link ∷ []
links_of (Ok None) = []
links_of (Err fault) = []

-- The door was asked for the next link. No end and no fault hands one out.
pub record AsksNext {D L E : Type 0} (words : DoorWords D L) (old : D) (result : Result (Option L) E) (new : D) : Type 0 where
  pub out : words.is_out new ≡ hands_out result
  pub ended : words.has_ended new ≡ is_last result

-- the link handed out, if one was, stands behind those before
pub record HandsOut {D L E : Type 0} (words : DoorWords D L) (old : D) (result : Result (Option L) E) (new : D) : Type 0 where
  pub handed : words.handed new ≡ words.handed old ++ links_of result
  pub back : words.back new ≡ words.back old

-- a link was given back: none is out, and nothing else changes
pub record TakesBack {D L : Type 0} (words : DoorWords D L) (old new : D) : Type 0 where
  pub out : words.is_out new ≡ false
  pub ended : words.has_ended new ≡ words.has_ended old
  pub faults : words.faults new ≡ words.faults old

-- the link given back stands behind those before
pub record KeepsBack {D L : Type 0} (words : DoorWords D L) (old : D) (link : L) (new : D) : Type 0 where
  pub handed : words.handed new ≡ words.handed old
  pub back : words.back new ≡ words.back old ++ link ∷ []
