use Rattle.std.proofs.Common.{◌≡◌, ℕ, ◌≤◌, List, length, sym, ◌∙◌, ap, subst, arith}
use Rattle.gt_disk.specs.Images.{Write, overlaid, state_of}
use Rattle.gt_disk.specs.MemFile.{steps_of}
use Rattle.gt_disk.proofs.Replay.{replayed_more, torn_overlaid, begins_true}
use Rattle.gt_disk.proofs.mem.MemDiskDisk.write_at.Goals as goal

pub invariant_of-self-in-Ok : goal.invariant_of-self-in-Ok
invariant_of-self-in-Ok c =
    let m = c.self.inside in
    let from = c.args.from.now in
    let steps = steps_of m.noted.items in
    let seen = (state_of m.start.items steps).seen in
    let same : (state_of c.args.self.now.start c.args.self.now.steps).seen ≡ seen = ap (λ v. (state_of v.start v.steps).seen) (sym c.self.view_is) in
    let within : c.args.at ≤ length seen = subst (λ (l : List ℕ). c.args.at ≤ length l) same c.requires in
    let is = c.self.invariant.is in
    let put = c.in-Ok.ensures.ok_file in
    let torn = torn_overlaid seen c.args.at from within in
    let now = put ∙ ap (λ (l : List ℕ). overlaid l c.args.at from) is in
    replayed_more m.start.items steps (steps_of c.note_write.new.noted.items) (Write c.args.at from) c.in-Ok.ensures.ok m.bytes.items c.note_write.new.file.items c.self.invariant
    (begins_true (state_of m.start.items steps) c.args.at from within) now
    (omega (arith, ap length now, torn.no_longer, ap length is, c.self.invariant.small))
