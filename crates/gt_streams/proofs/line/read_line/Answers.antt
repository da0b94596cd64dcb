use Rattle.gt_streams.proofs.ReadingLemmas.{line_end_of-end, line_end_of-long, line_end_of-newline}
use Rattle.gt_streams.proofs.line.read_line.Goals as goal
use Rattle.gt_streams.specs.Reading.{line_end_of}
use Rattle.gt_streams.specs.declared.line.LineEnd.TheVariants.{EndOfInput}
use Rattle.std.proofs.Common.{Ok, ap, arith, inl, length, rules, sym, ◌++◌, ◌<◌, ◌∙◌, ◌∷◌, ◌≡◌}

pub returns-in-Ok-eq0-clause-told : goal.returns-in-Ok-eq0-clause-told
returns-in-Ok-eq0-clause-told g c told =
    let bytes = c.loop-into.into.items in
    let whole : g.S.Source.words.left c.args.source.now ≡ bytes = search rules in
    let short : length bytes < c.args.max = omega arith in
    let have : c.len-in-Ok-eq0.result ≡ length bytes = search rules in
    record { taken = search rules; answer = inl (ap (λ n. Ok (EndOfInput n)) have ∙ sym (ap (line_end_of c.args.max) whole ∙ line_end_of-end c.args.max bytes c.loop-into.invariant.plain short)) }

pub returns-then-byte-eq10-clause-told : goal.returns-then-byte-eq10-clause-told
returns-then-byte-eq10-clause-told g c told =
    let bytes = c.loop-into.into.items in
    let rest = g.S.Source.words.left c.read.new.self in
    let whole : g.S.Source.words.left c.args.source.now ≡ bytes ++ 10 ∷ rest = search rules in
    let short : length bytes < c.args.max = omega arith in
    record { taken = search rules; answer = inl (sym (ap (line_end_of c.args.max) whole ∙ line_end_of-newline c.args.max bytes rest c.loop-into.invariant.plain short)) }

pub returns-clause-told : goal.returns-clause-told
returns-clause-told g c told =
    let bytes = c.loop-into.into.items in
    let rest = g.S.Source.words.left c.loop-into.source in
    let long : length bytes ≡ c.args.max = omega arith in
    record { taken = search rules; answer = inl (sym (ap (line_end_of c.args.max) (c.loop-into.invariant.bytes told) ∙ line_end_of-long c.args.max bytes rest c.loop-into.invariant.plain long)) }
