use Rattle.gt_http.proofs.BodyLemmas.{cut_body}
use Rattle.gt_http.proofs.read.read_body.Goals as goal
use Rattle.gt_http.specs.Head.{fields_of, framing_of, most_body_bytes}
use Rattle.std.proofs.Common.{Some, inr, length, refl, rules, ◌++◌, ◌<◌, ◌≡◌, ◌≤◌}

pub returns-in-Err-ReadFault-clause-told : goal.returns-in-Err-ReadFault-clause-told
returns-in-Err-ReadFault-clause-told g c told =
    let part = c.read_exactly.new.into.items in
    let want = c.in-Some.want in
    let left : g.S.Source.words.left c.args.source.now ≡ part ++ g.S.Source.words.left c.read_exactly.new.source = search rules in
    let fewer : length part < want = search rules in
    let framing : framing_of (fields_of c.requires.head) ≡ Some want = search rules in
    let fits : want ≤ most_body_bytes = search rules in
    record {
      part = part;
      left = left;
      means = inr (length part, want, cut_body c.args.head.now.bytes.items part c.requires.head want (length part) c.requires.is_head framing fits refl fewer);
    }
