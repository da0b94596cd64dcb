-- What appending a body does, and what settling the one in doubt does.
use Rattle.std.specs.Prelude.{◌≡◌, ◌≢◌, ◌⊎◌, ℕ, ◌+◌, IsTrue, Option, None, Some, IsSome, List, [], ◌∷◌, ◌++◌, length, slice_index}
use Rattle.gt_disk.specs.Disk.{DiskWords, LeavesOnly}
use Rattle.gt_journal.specs.JournalText.{IsJournalText}
use Rattle.gt_journal.specs.Journal.{Journal}
use Rattle.gt_journal.specs.declared.settled.Settled.{Settled}
use Rattle.gt_journal.specs.declared.settled.Settled.TheVariants.{Nothing, Kept, Dropped}

-- the body counts, as the last one, and nothing is in doubt
pub record IsAdded {D : Type 0} (words : DiskWords D) (old : Journal D) (body : List ℕ) (new : Journal D) : Type 0 where
  pub clear : new.doubt ≡ None
  -- its record takes 9 bytes and its own
  pub place : new.place ≡ old.place + (9 + length body)
  pub bodies : IsTrue (words.honest old.disk) → new.bodies ≡ old.bodies ++ body ∷ []

-- the bodies are as they were, and this is in doubt
pub record StaysWith {D : Type 0} (words : DiskWords D) (old : Journal D) (doubt : Option (List ℕ)) (new : Journal D) : Type 0 where
  pub left : new.doubt ≡ doubt
  pub place : new.place ≡ old.place
  pub bodies : IsTrue (words.honest old.disk) → new.bodies ≡ old.bodies

-- nothing is in doubt, and no crash during the call leaves more than the bodies
pub record IsUnwritten {D : Type 0} (words : DiskWords D) (old new : Journal D) : Type 0 where
  pub stays : StaysWith words old None new
  pub any_moment : IsTrue (words.honest old.disk) → LeavesOnly words old.disk new.disk (IsJournalText old.bodies)

-- a body that could not be added is in doubt, or was never there
abbrev pub IsNotAdded : {D : Type 0} → DiskWords D → Journal D → List ℕ → Journal D → Type 0
IsNotAdded words old body new = StaysWith words old (Some body) new ⊎ IsUnwritten words old new

-- the byte at the gate of the next record, as a read of an honest disk gives it
abbrev pub gate_of : {D : Type 0} → DiskWords D → Journal D → ℕ
gate_of words journal = slice_index (words.seen journal.disk) journal.place

-- The body in doubt counts from then on where its gate is 1, and doesn't where it is another byte. Where nothing was in
-- doubt nothing is done.
abbrev pub Settles : {D : Type 0} → DiskWords D → Journal D → Settled → Journal D → Type 0
Settles words old Nothing new = (old.doubt ≡ None) × (new ≡ old)
Settles words old Kept new =
    (body : List ℕ) × (old.doubt ≡ Some body) × IsAdded words old body new × (IsTrue (words.honest old.disk) → gate_of words old ≡ 1)
Settles words old Dropped new =
    IsSome old.doubt × StaysWith words old None new × (IsTrue (words.honest old.disk) → gate_of words old ≢ 1)

-- a body is in doubt still
pub record IsUnsettled {D : Type 0} (words : DiskWords D) (old new : Journal D) : Type 0 where
  pub some : IsSome old.doubt
  pub stays : StaysWith words old old.doubt new
