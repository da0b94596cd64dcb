use Rattle.gt_http.proofs.BodyLemmas.{method_text}
use Rattle.gt_http.proofs.parts.incoming.Goals as goal
use Rattle.httparse.specs.Spans.{span_bytes}
use Rattle.std.proofs.Common.{IsUtf8, rules, subst, sym, ◌≡◌}

pub text-requires : goal.text-requires
text-requires c =
    let head = c.args.head.now in
    let same : c.of.result.now ≡ span_bytes head.bytes.items head.spans.method = search rules in
    subst IsUtf8 (sym same) (method_text head.bytes.items c.args.headers.now head.spans c.requires)
