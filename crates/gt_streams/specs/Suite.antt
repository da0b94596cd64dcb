-- What the suites of sources and sinks say where they stop.
use Rattle.gt_streams.specs.declared.suite_fault.SuiteFault.{SuiteFault}
use Rattle.gt_streams.specs.declared.suite_fault.SuiteFault.TheVariants.{DeviceFault, OutOfMemory, WrongBytes, WrongEnd}

-- it stopped for a fault or for want of memory, and not since the device was found wrong
abbrev pub IsNoVerdict : SuiteFault → Type 0
IsNoVerdict WrongBytes = ⊥
IsNoVerdict WrongEnd = ⊥
IsNoVerdict DeviceFault = Unit {0}
IsNoVerdict OutOfMemory = Unit {0}
