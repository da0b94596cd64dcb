use Rattle.std.proofs.Common.{rules, arith, ◌≡◌, ◌+◌, ◌≤◌, length, ◌∙◌}
use Rattle.std.proofs.lemmas.List.{places}
use Rattle.gt_journal.proofs.PieceLemmas.{piece_of, same_on, read_more, looked_more}
use Rattle.gt_journal.proofs.pieces.read_pieces.Goals as goal

pub loop-at-preserved : goal.loop-at-preserved
loop-at-preserved g c =
    let d = g.D.Disk in
    let l = c.loop-at in
    let more = c.min-more.result in
    let first = c.args.disk.now in
    let into = c.read.new.into in
    let long : length into ≡ more = search (rules, places) in
    let inside : l.at + more ≤ c.args.size = search (rules, places) in
    record {
      inside = inside;
      buffer = search (rules, places);
      whole = c.in_ok-read_on.ensures.whole;
      read = read_more d.words first l.at more into l.reading c.read_on.new.self l.invariant.read c.in_ok-read_on.ensures.ok long
          (λ honest.
          let told = c.in_ok-read.ensures.told (l.invariant.same.honest ∙ honest) in
          let so_far = l.invariant.told honest in
          piece_of into (d.words.seen l.disk) (d.words.seen first) l.at _ more told.ok so_far.seen long (omega (arith, inside, c.requires honest)));
      same = same_on d.words first l.disk c.read.new.self l.invariant.same c.read.ensures.same;
      told = λ honest. looked_more d.words first l.disk c.read.new.self l.at _ into _ (l.invariant.told honest) (c.read.ensures.told (l.invariant.same.honest ∙ honest));
    }
