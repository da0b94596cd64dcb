use Rattle.gt_disk.specs.Disk.{IsSameDisk}
use Rattle.gt_machine.specs.Run.{run_of}
use Rattle.gt_script.specs.Script.{most_script_bytes}
use Rattle.gt_streams.specs.Streams.{IsSameSink, IsSameSource}
use Rattle.gt_types.specs.declared.event.Event.{Event}
use Rattle.std.proofs.Common.{IsTrue, List, Some, ◌-◌, ◌≡◌, ◌≤◌}
use Rattle.transferd.proofs.script.run_script.Given as goal
use Rattle.transferd.specs.Endings.{read_from, written_to}
use Rattle.transferd.specs.Progress.{Progress}
use Rattle.gt_world.specs.World.{world_on}

abbrev pub invariant-loop-taken : goal.invariant-loop-taken
invariant-loop-taken g l = record {
  disk : IsSameDisk g.D.Disk.words l.fn.desk.disk l.session.desk.disk;
  source : IsSameSource g.T.Source.words l.fn.script l.script;
  sink : IsSameSink g.K.Sink.words l.fn.out l.out;
  setup : l.session.desk.setup ≡ l.fn.desk.setup;
  number : l.ran ≤ l.taken;
  fits : l.taken ≤ most_script_bytes;
  so_far : (history : List Event) → run_of l.fn.desk.setup history ≡ Some l.fn.desk.ledger.machine → (IsTrue (g.D.Disk.words.honest l.fn.desk.disk) → history ≡ l.fn.desk.ledger.history)
      → Progress g.D.Disk.words (g.D.Disk.words.honest l.fn.desk.disk) l.fn.desk.setup (world_on (record l.fn.desk.ledger { history = history }) (g.D.Disk.words.faults l.fn.desk.disk)) l.fn.desk.disk l.ran l.session l.taken
      (read_from g.T.Source.words l.fn.script l.script) (written_to g.K.Sink.words l.fn.out l.out);
}

abbrev pub decreases-loop-taken : goal.decreases-loop-taken
decreases-loop-taken g l = most_script_bytes - l.taken
