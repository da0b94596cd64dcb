-- What a crash leaves where runs go on.
use Rattle.gt_causes.specs.Outcomes.{NoMore}
use Rattle.gt_desk.specs.History.{Stands, StandsDuring}
use Rattle.gt_disk.specs.Disk.{DiskWords, LeavesOnly}
use Rattle.gt_disk.specs.Moments.{joined, started, weaker}
use Rattle.gt_setup.specs.Setup.{Setup}
use Rattle.std.proofs.Common.{List, [], inl, ◌++◌, ◌∷◌, ℕ}
use Rattle.gt_world.specs.Crashes.{CrashesKeep}
use Rattle.gt_world.specs.World.{Taken, World, world_after}

module _ {D : Type 0} (words : DiskWords D) (setup : Setup) where
  -- time goes by before a run
  pub crashes_later : (old disk new : D) (world : World) (run : List Taken) → LeavesOnly words old disk (Stands setup world.ledger) → CrashesKeep words setup disk world run new → CrashesKeep words setup old world run new
  crashes_later old disk new world [] idle keeps = joined words old disk new (Stands setup world.ledger) idle keeps
  crashes_later old disk new world (taken ∷ rest) idle (next, during, keeps) = (
    next,
    joined words old disk next (StandsDuring setup world.ledger taken.world.ledger)
        (weaker words old disk (Stands setup world.ledger) (StandsDuring setup world.ledger taken.world.ledger) (λ c stands. inl stands) idle) during,
    keeps,
  )

  -- one run after another
  pub crashes_append : (old disk new : D) (world : World) (first second : List Taken) → CrashesKeep words setup old world first disk → CrashesKeep words setup disk (world_after world first) second new
      → CrashesKeep words setup old world (first ++ second) new
  crashes_append old disk new world [] second one two = crashes_later old disk new world second one two
  crashes_append old disk new world (taken ∷ rest) second (next, during, keeps) two = (next, during, crashes_append next disk new taken.world rest second keeps two)

  -- one step
  pub crashes_step : (old new : D) (world : World) (taken : Taken) → LeavesOnly words old new (StandsDuring setup world.ledger taken.world.ledger)
      → NoMore (Stands setup taken.world.ledger) (words.may_leave new) → ((c : List ℕ) → words.left_since new (words.moment new) c → words.may_leave new c) → CrashesKeep words setup old world (taken ∷ []) new
  crashes_step old new world taken during images only = (new, during, started words new (Stands setup taken.world.ledger) (λ c left. images c (only c left)))
