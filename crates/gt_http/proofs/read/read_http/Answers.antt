use Rattle.gt_http.proofs.BodyLemmas.{joined_ok}
use Rattle.gt_http.proofs.read.read_http.Goals as goal
use Rattle.gt_http.specs.Reading.{ReadsHead}
use Rattle.std.proofs.Common.{IsTrue, Ok, Some, subst, sym}

pub returns-in-Ok-clause-told : goal.returns-in-Ok-clause-told
returns-in-Ok-clause-told g c told =
    let still = subst IsTrue (sym c.in_ok-found.ensures.same.told) told in
    let head : ReadsHead (g.S.Source.words.left c.args.source.now) (Ok (Some c.in-Some.head)) (g.S.Source.words.left c.read_head.new.source) =
    rw c.in-Some.is at (c.in_ok-found.ensures.told told) in
    joined_ok _ _ _ c.in-Some.head c.in-Ok.incoming head (c.in-Ok.ensures.told still)
