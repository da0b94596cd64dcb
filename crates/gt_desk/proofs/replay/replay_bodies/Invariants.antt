use Rattle.std.proofs.Common.{◌≤◌, take}
use Rattle.gt_desk.specs.Replay.{Replays}
use Rattle.gt_journal.specs.Reading.{lists}
use Rattle.gt_machine.specs.Run.{IsReached}
use Rattle.gt_desk.proofs.replay.replay_bodies.Given as goal

abbrev pub invariant-loop-at : goal.invariant-loop-at
invariant-loop-at l = record {
  reached : IsReached l.setup l.state.machine;
  count : l.state.machine.events ≤ l.at;
  so_far : Replays l.setup (take l.at (lists l.bodies)) l.state.machine;
}
