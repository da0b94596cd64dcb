use Rattle.std.proofs.Common.{refl}
use Rattle.gt_disk.specs.Images.{Look}
use Rattle.gt_disk.specs.MemFile.{steps_of}
use Rattle.gt_disk.proofs.Replay.{replayed_more}
use Rattle.gt_disk.proofs.mem.MemDiskDisk.read.Goals as goal

pub invariant_of-self-in-Ok : goal.invariant_of-self-in-Ok
invariant_of-self-in-Ok c =
    let m = c.self.inside in
    replayed_more m.start.items (steps_of m.noted.items) (steps_of c.note.new.noted.items) Look c.in-Ok.ensures.ok m.bytes.items m.bytes.items c.self.invariant refl c.self.invariant.is c.self.invariant.small
