use Rattle.std.proofs.Common.{rules, ◌<◌, ◌^◌, length, IfErr, IfOk}
use Rattle.std.proofs.lemmas.Result.{IfOk-weaker}
use Rattle.gt_desk.proofs.Reopenings.{both_err, both_ok, not_reopened, reopened, reopened_during, same_err}
use Rattle.gt_desk.specs.Desk.{Stays, StaysDuring}
use Rattle.gt_desk.specs.Opening.{IsNotOpened, IsNotReopened, IsOpened, IsReopened, disk_in}
use Rattle.gt_disk.specs.Disk.{IsSameDisk}
use Rattle.gt_desk.proofs.desk.Desk.reopen.Goals as goal

pub returns-clause-reopened : goal.returns-clause-reopened
returns-clause-reopened g c =
    let w = g.D.Disk.words in
    let s = c.args.self in
    let r = c.open.result in
    let few : length s.setup.collections < 2 ^ 32 = search rules in
    let opened : IfOk r (IsOpened w s.setup s.disk) = search rules in
    IfOk-weaker r (IsOpened w s.setup s.disk) (IsReopened w s)
    (reopened w g.met.D.Disk.laws s c.state.ensures.images (λ a b at_a at_b. c.one_history.ensures.one s.setup a b (w.seen s.disk) few at_a at_b)
    (λ history n stands damage. c.one_history.ensures.apart s.setup history n (w.seen s.disk) few stands damage)) opened

pub returns-clause-crash : goal.returns-clause-crash
returns-clause-crash g c =
    let w = g.D.Disk.words in
    let s = c.args.self in
    let r = c.open.result in
    let few : length s.setup.collections < 2 ^ 32 = search rules in
    let opened : IfOk r (IsOpened w s.setup s.disk) = search rules in
    both_ok r (IsOpened w s.setup s.disk) (Stays w) (λ desk. StaysDuring w s desk × Stays w desk)
    (λ desk is stays. (
      reopened_during w g.met.D.Disk.laws s c.state.ensures.images (λ a b at_a at_b. c.one_history.ensures.one s.setup a b (w.seen s.disk) few at_a at_b)
          (λ history n stands damage. c.one_history.ensures.apart s.setup history n (w.seen s.disk) few stands damage) desk is,
      stays,
    )) opened c.open.ensures.images

pub returns-clause-refused : goal.returns-clause-refused
returns-clause-refused g c =
    let w = g.D.Disk.words in
    let s = c.args.self in
    let r = c.open.result in
    let few : length s.setup.collections < 2 ^ 32 = search rules in
    let refused : IfErr r (IsNotOpened w s.setup s.disk) = search rules in
    let kept : IsSameDisk w s.disk (disk_in r) = search rules in
    both_err r (IsNotOpened w s.setup s.disk) (λ refused. IsSameDisk w s.disk refused.disk) (IsNotReopened w s)
    (λ refused is same. not_reopened w g.met.D.Disk.laws s c.state.ensures.images (λ a b at_a at_b. c.one_history.ensures.one s.setup a b (w.seen s.disk) few at_a at_b)
    (λ history n stands damage. c.one_history.ensures.apart s.setup history n (w.seen s.disk) few stands damage) refused is same) refused (same_err w s.disk r kept)
