-- Calls of a desk one after another, and what stays.
use Rattle.std.specs.Prelude.{List, Some, [], slice_get, ℕ, ◌++◌, ◌∷◌, ◌≡◌}
use Rattle.gt_desk.specs.History.{Ledger, Stands, StandsDuring}
use Rattle.gt_disk.specs.Disk.{DiskWords, LeavesOnly}
use Rattle.gt_setup.specs.Setup.{Setup}
use Rattle.gt_tasks.specs.declared.row.TaskRow.{TaskRow}
use Rattle.gt_types.specs.declared.event.Event.{Event}

-- a call of any kind that was made: the events that moved the desk, and the disk and the ledger after it
pub record Call (D : Type 0) : Type 0 where
  pub moved : List Event
  pub disk : D
  pub ledger : Ledger

-- Each call put its events behind the history, and a crash in it leaves what stands for the ledger before it or after it; behind
-- the last one, what stands for the ledger.
abbrev pub AreCalls : {D : Type 0} → DiskWords D → Setup → D → Ledger → List (Call D) → D → Type 0
AreCalls words setup disk ledger [] last = LeavesOnly words disk last (Stands setup ledger)
AreCalls words setup disk ledger (call ∷ calls) last =
    (call.ledger.history ≡ ledger.history ++ call.moved)
    × LeavesOnly words disk call.disk (StandsDuring setup ledger call.ledger)
    × AreCalls words setup call.disk call.ledger calls last

-- the task of this number is the owner's of this submission identifier, and no other is
pub record IsOnlyTask (owner submission : List ℕ) (number : ℕ) (tasks : List TaskRow) : Type 0 where
  pub place : ℕ
  pub task : TaskRow
  pub there : slice_get tasks place ≡ Some task
  pub by_owner : task.owner ≡ owner
  pub of_submission : task.submission ≡ submission
  pub numbered : task.number ≡ number
  pub only : (i : ℕ) (other : TaskRow) → slice_get tasks i ≡ Some other → other.owner ≡ owner → other.submission ≡ submission → i ≡ place
