-- Two scripts on one disk, one after the other.
use Rattle.gt_desk.specs.History.{Ledger}
use Rattle.gt_disk.specs.Disk.{DiskWords}
use Rattle.gt_setup.specs.Setup.{Setup}
use Rattle.gt_world.specs.World.{world_after, world_on}
use Rattle.std.specs.Prelude.{true}
use Rattle.transferd.specs.Endings.{Stream}
use Rattle.transferd.specs.MainTheorem.{Served}
use Rattle.transferd.specs.Run.{world_at}
use Rattle.transferd.specs.declared.exit.Exit.{Exit}

-- a desk was opened on an honest disk and a script ran on it, however that ended
pub record ServedOn {D : Type 0} (words : DiskWords D) (setup : Setup) (old new : D) : Type 0 where
  pub exit : Exit
  pub script : Stream
  pub out : Stream
  pub served : Served words true exit setup old new script out

-- what was found when the desk was opened
abbrev pub found_by : {D : Type 0} (words : DiskWords D) (setup : Setup) (old new : D) → ServedOn words setup old new → Ledger
found_by words setup old new it = it.served.found

-- the ledger at the end
abbrev pub left_by : {D : Type 0} (words : DiskWords D) (setup : Setup) (old new : D) → ServedOn words setup old new → Ledger
left_by words setup old new it =
    (world_after (world_at (world_on it.served.opened (words.faults it.served.disk)) it.served.ran.run) it.served.ran.last).ledger
