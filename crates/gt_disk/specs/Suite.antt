-- What the suite of disks says where it stops.
use Rattle.gt_disk.specs.declared.suite_fault.SuiteFault.{SuiteFault}
use Rattle.gt_disk.specs.declared.suite_fault.SuiteFault.TheVariants.{DiskFault, WrongLength, WrongBytes, OutOfMemory}

-- it stopped for a fault or for want of memory, and not since the disk was found wrong
abbrev pub IsNoVerdict : SuiteFault → Type 0
IsNoVerdict DiskFault = Unit {0}
IsNoVerdict WrongLength = ⊥
IsNoVerdict WrongBytes = ⊥
IsNoVerdict OutOfMemory = Unit {0}
