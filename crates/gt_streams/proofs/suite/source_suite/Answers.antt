use Rattle.gt_streams.proofs.PieceLemmas.{front_is}
use Rattle.gt_streams.proofs.suite.source_suite.Goals as goal
use Rattle.std.proofs.Common.{rules, sym, true, ◌++◌, ◌∙◌, ◌≡◌}
use Rattle.std.proofs.lemmas.Slice.Eq.{bytes_eq-Decides}
use Rattle.std.specs.Str.{bytes_eq}

pub returns-then-ne-clause-fault : goal.returns-then-ne-clause-fault
returns-then-ne-clause-fault g c told same =
    let given = c.read_exactly.new.into.items in
    let bytes = c.args.bytes.now in
    let rest = g.S.Source.words.left c.read_exactly.new.source in
    let whole : bytes ≡ given ++ rest = sym same ∙ (c.in-Ok.ensures.told told).taken in
    let equal : given ≡ bytes = front_is given rest bytes whole c.in-Ok.ensures.value in
    let decided : bytes_eq given bytes ≡ true = (bytes_eq-Decides given bytes).1 equal in
    search rules
