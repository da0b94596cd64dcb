use Rattle.std.proofs.Common.{arith, None, ◌∙◌}
use Rattle.gt_journal.specs.Reading.{lists}
use Rattle.gt_journal.proofs.Openings.{found_bodies, found_consistent}
use Rattle.gt_journal.proofs.Standings.{rests}
use Rattle.gt_journal.proofs.journal.Journal.open.Goals as goal

pub invariant_of-journal : goal.invariant_of-journal
invariant_of-journal g c =
    let found = c.in-Ok-open_disk in
    found_consistent g.D.Disk.words g.met.D.Disk.laws c.args.disk c.open_disk.new.disk (lists found.bodies.items) found.place c.in-Ok.buffer.items c.open_disk.ensures.same.honest found.ensures.ok found.ensures.room.1
    (omega (arith, c.in-Ok.ensures))

pub returns-in-Ok-open_disk-clause-images : goal.returns-in-Ok-open_disk-clause-images
returns-in-Ok-open_disk-clause-images g c =
    let words = g.D.Disk.words in
    let found = c.in-Ok-open_disk in
    rests words c.open_disk.new.disk found.place None c.in-Ok.buffer.items
    (found_consistent words g.met.D.Disk.laws c.args.disk c.open_disk.new.disk (lists found.bodies.items) found.place c.in-Ok.buffer.items c.open_disk.ensures.same.honest found.ensures.ok found.ensures.room.1
    (omega (arith, c.in-Ok.ensures)))

pub returns-in-Ok-open_disk-clause-ok : goal.returns-in-Ok-open_disk-clause-ok
returns-in-Ok-open_disk-clause-ok g c honest =
    let words = g.D.Disk.words in
    let found = c.in-Ok-open_disk in
    let new = c.open_disk.new.disk in
    let it = found.ensures.ok honest in
    record {
      is = found_bodies words c.args.disk new (lists found.bodies.items) found.place it (g.met.D.Disk.laws.reads_now new (c.open_disk.ensures.same.honest ∙ honest));
      text = it.text;
      file = it.file;
      any_moment = it.any_moment;
    }
