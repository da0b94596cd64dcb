use Rattle.std.proofs.Common.{sym, subst, rules}
use Rattle.gt_disk.specs.Images.{IsImage, state_of, fresh}
use Rattle.gt_disk.specs.MemFile.{MemFile, IsKept, steps_of}
use Rattle.gt_disk.proofs.KeptLemmas.{kept_image, tidy_run, tidy_fresh}
use Rattle.gt_disk.proofs.mem.MemDisk.crash.Goals as goal

pub returns-clause-images : goal.returns-clause-images
returns-clause-images c =
    let m = c.self.inside in
    let state = state_of m.start.items (steps_of m.noted.items) in
    let left = c.in_ok-left.left.items in
    let tidy = tidy_run (fresh m.start.items) (steps_of m.noted.items) c.self.invariant.within (tidy_fresh m.start.items) in
    let kept : IsKept c.args.keep state left = search rules in
    let image = kept_image c.args.keep state left tidy kept in
    let here = subst (λ v. IsImage (state_of v.start v.steps) left) c.self.view_is image in
    subst (λ (d : MemFile). IsImage (state_of c.args.self.start c.args.self.steps) d.start) (sym c.in_ok-disk.ensures.fresh) here
