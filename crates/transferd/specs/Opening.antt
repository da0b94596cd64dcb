-- What reading a setup gives, and what is said where no desk is opened.
use Rattle.gt_desk.specs.declared.fault.OpenFault.{OpenFault}
use Rattle.gt_desk.specs.declared.fault.OpenFault.TheVariants.{Damaged as OpenDamaged, JournalFault as OpenJournalFault, OutOfMemory as OpenOutOfMemory}
use Rattle.gt_setup.specs.Grammar.{setup_of}
use Rattle.gt_setup.specs.Setup.{Setup}
use Rattle.gt_setup.specs.declared.fault.SetupFault.{SetupFault}
use Rattle.std.specs.Prelude.{Err, IsTrue, List, Ok, ◌++◌, ◌≡◌, ℕ}
use Rattle.transferd.specs.Endings.{Stream}
use Rattle.transferd.specs.Exits.{setup_read}
use Rattle.transferd.specs.declared.exit.Exit.{Exit}
use Rattle.transferd.specs.declared.exit.Exit.TheVariants.{Damaged, JournalFault, OutOfMemory, SetupRefused, SourceFault}

-- of a setup's source these bytes were read
pub record ReadsSetup (source : Stream) (bytes : List ℕ) : Type 0 where
  pub whole : IsTrue source.told → source.before ≡ bytes ++ source.after
  pub all : IsTrue source.told → bytes ≡ setup_read source.before

-- the bytes that were read stand for this setup
pub record IsRead (source : Stream) (setup : Setup) : Type 0 where
  pub bytes : List ℕ
  pub read : ReadsSetup source bytes
  pub stands : setup_of bytes ≡ Ok setup

-- the bytes that were read have this fault
pub record RefusesSetup (fault : SetupFault) (source : Stream) : Type 0 where
  pub bytes : List ℕ
  pub read : ReadsSetup source bytes
  pub stands : setup_of bytes ≡ Err fault

-- the exit where no setup was read: it has a fault, its source failed, or memory was wanted
abbrev pub IsNotRead : Stream → Exit → Type 0
IsNotRead source (SetupRefused fault) = RefusesSetup fault source
IsNotRead source SourceFault = Unit {0}
IsNotRead source OutOfMemory = Unit {0}
IsNotRead source exit = ⊥

-- nothing of the script was read, and nothing written
pub record IsUntouched (script out : Stream) : Type 0 where
  pub unread : script.after ≡ script.before
  pub unwritten : out.after ≡ out.before

-- the fault of an opening that an exit tells
abbrev pub IsOpenFaultOf : Exit → OpenFault → Type 0
IsOpenFaultOf JournalFault fault = fault ≡ OpenJournalFault
IsOpenFaultOf (Damaged number) fault = fault ≡ OpenDamaged number
IsOpenFaultOf OutOfMemory fault = fault ≡ OpenOutOfMemory
IsOpenFaultOf exit fault = ⊥
