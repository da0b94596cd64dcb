-- What a crash leaves at each moment of a run.
use Rattle.gt_desk.specs.History.{Keeps, Stands, StandsDuring}
use Rattle.gt_disk.specs.Disk.{DiskWords, LeavesOnly}
use Rattle.gt_setup.specs.Setup.{Setup}
use Rattle.std.specs.Prelude.{List, [], ◌++◌, ◌∷◌, ◌≡◌}
use Rattle.gt_world.specs.World.{Taken, World, world_after}

-- The disk goes from state to state with the steps. From a step's beginning to its end a crash leaves a file that stands for
-- the history before the step or for the one after it, each with or without the event then in doubt; behind the last step,
-- for the last history.
abbrev pub CrashesKeep : {D : Type 0} → DiskWords D → Setup → D → World → List Taken → D → Type 0
CrashesKeep words setup disk world [] last = LeavesOnly words disk last (Stands setup world.ledger)
CrashesKeep {D} words setup disk world (taken ∷ rest) last =
    (next : D) × LeavesOnly words disk next (StandsDuring setup world.ledger taken.world.ledger) × CrashesKeep words setup next taken.world rest last

-- the same, up to the disk right behind the last step
abbrev pub CrashesUpTo : {D : Type 0} → DiskWords D → Setup → D → World → List Taken → D → Type 0
CrashesUpTo words setup disk world [] last = disk ≡ last
CrashesUpTo {D} words setup disk world (taken ∷ rest) last =
    (next : D) × LeavesOnly words disk next (StandsDuring setup world.ledger taken.world.ledger) × CrashesUpTo words setup next taken.world rest last

-- Nothing acknowledged is lost: wherever the steps are split, there is a state of the disk right behind the first part, from
-- which on a crash leaves a file that stands for all of the first part's history, with what came after it.
abbrev pub KeepsAcknowledged : {D : Type 0} → DiskWords D → Setup → D → World → List Taken → D → Type 0
KeepsAcknowledged {D} words setup disk world steps last =
    (before rest : List Taken) → steps ≡ before ++ rest
    → (mid : D) × CrashesUpTo words setup disk world before mid × LeavesOnly words mid last (Keeps setup (world_after world before).ledger.history)
