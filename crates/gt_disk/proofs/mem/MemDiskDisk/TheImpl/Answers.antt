use Rattle.std.proofs.Common.{◌+◌, ◌^◌, ◌≤◌, length, refl}
use Rattle.gt_disk.specs.Images.{Look, Write, Sync}
use Rattle.gt_disk.proofs.MemCalls.{failed, len_answer, read_answer, write_answer, sync_answer}
use Rattle.gt_disk.proofs.mem.MemDiskDisk.TheImpl.Goals as goal

pub len-tells : goal.len-tells
len-tells c = record {
  same = c.ensures.same;
  cause = failed c.args.self.now c.new.self.now Look ⊥ c.result c.ensures.told;
  room = c.ensures.room;
  told = λ honest. len_answer c.args.self.now c.new.self.now c.result c.ensures.told c.ensures.ok;
}

pub read-tells : goal.read-tells
read-tells c = record {
  same = c.ensures.same;
  cause = failed c.args.self.now c.new.self.now Look ⊥ c.result c.ensures.told;
  told = λ honest. read_answer c.args.self.now c.new.self.now c.result c.args.at c.args.into.now c.new.into.now c.ensures.told c.ensures.ok;
}

pub write_at-tells : goal.write_at-tells
write_at-tells c = record {
  same = c.ensures.same;
  cause = failed c.args.self.now c.new.self.now (Write c.args.at c.args.from.now) (2 ^ 63 ≤ c.args.at + length c.args.from.now) c.result c.ensures.told;
  room = c.ensures.room;
  told = λ honest. write_answer c.args.self.now c.new.self.now c.args.at c.args.from.now (2 ^ 63 ≤ c.args.at + length c.args.from.now) (c.requires refl) c.result c.ensures.told;
}

pub sync-tells : goal.sync-tells
sync-tells c = record {
  same = c.ensures.same;
  cause = failed c.args.self.now c.new.self.now Sync ⊥ c.result c.ensures.told;
  told = λ honest. sync_answer c.args.self.now c.new.self.now c.result c.ensures.told;
}
