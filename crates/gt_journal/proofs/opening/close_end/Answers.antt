use Rattle.std.proofs.Common.{◌∙◌}
use Rattle.gt_journal.specs.JournalText.{IsJournalText}
use Rattle.gt_journal.proofs.Openings.{end_written}
use Rattle.gt_journal.proofs.Runs.{and_sync}
use Rattle.gt_journal.proofs.opening.close_end.Goals as goal

pub returns-in_err-write_at-clause-any_moment : goal.returns-in_err-write_at-clause-any_moment
returns-in_err-write_at-clause-any_moment g c bodies end =
    let d = g.D.Disk in (end_written d.words g.met.D.Disk.laws c.args.disk.now c.write_at.new.self c.args.place bodies _ end (c.write_at.ensures.told end.honest)).moments

pub returns-in_err-sync-clause-any_moment : goal.returns-in_err-sync-clause-any_moment
returns-in_err-sync-clause-any_moment g c bodies end =
    let d = g.D.Disk in
    let wrote = end_written d.words g.met.D.Disk.laws c.args.disk.now c.write_at.new.self c.args.place bodies _ end (c.write_at.ensures.told end.honest) in
    (and_sync d.words c.args.disk.now c.write_at.new.self c.sync.new.self (IsJournalText bodies) _ wrote (c.sync.ensures.told (c.write_at.ensures.same.honest ∙ end.honest))).moments

pub returns-clause-any_moment : goal.returns-clause-any_moment
returns-clause-any_moment g c bodies end =
    let d = g.D.Disk in
    let wrote = end_written d.words g.met.D.Disk.laws c.args.disk.now c.write_at.new.self c.args.place bodies _ end (c.write_at.ensures.told end.honest) in
    (and_sync d.words c.args.disk.now c.write_at.new.self c.sync.new.self (IsJournalText bodies) _ wrote (c.sync.ensures.told (c.write_at.ensures.same.honest ∙ end.honest))).moments
