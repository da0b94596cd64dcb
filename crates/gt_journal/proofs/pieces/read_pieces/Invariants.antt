use Rattle.std.proofs.Common.{◌≡◌, ◌≤◌, ◌-◌, length, min}
use Rattle.std.specs.Prelude.{IsTrue}
use Rattle.gt_disk.specs.Disk.{IsSameDisk}
use Rattle.gt_journal.specs.Reading.{IsPartial, HasRead, HasLooked}
use Rattle.gt_journal.proofs.pieces.read_pieces.Given as goal

abbrev pub invariant-loop-at : goal.invariant-loop-at
invariant-loop-at g l =
    let d = g.D.Disk in
    record {
      inside : l.at ≤ l.size;
      buffer : length l.piece.items ≡ min l.size 65536;
      whole : IsPartial l.reading;
      read : HasRead d.words l.fn.disk l.at l.reading;
      same : IsSameDisk d.words l.fn.disk l.disk;
      told : IsTrue (d.words.honest l.fn.disk) → HasLooked d.words l.fn.disk l.disk;
    }

abbrev pub decreases-loop-at : goal.decreases-loop-at
decreases-loop-at g l = l.size - l.at
