use Rattle.std.proofs.Common.{◌∙◌, ap, Some, None, lit<}
use Rattle.std.proofs.lemmas.Str.Pattern.{split_parts}
use Rattle.gt_paths.proofs.PieceLemmas.{pieces_of-first, pieces_of-last, no_slash-from_reads}
use Rattle.gt_paths.specs.PathText.{pieces_of}
use Rattle.gt_paths.proofs.pieces.first_piece.Goals as goal

pub returns-in-Some-clause-pieces : goal.returns-in-Some-clause-pieces
returns-in-Some-clause-pieces c =
    let parts = split_parts 47 c.args.text.now (Some c.in-Some.parts) c.in-Some.ensures.cases (lit< tt) in
    ap pieces_of parts.0 ∙ pieces_of-first c.in-Some.parts.0.now c.in-Some.parts.1.now (no_slash-from_reads _ parts.1)

pub returns-in-None-clause-pieces : goal.returns-in-None-clause-pieces
returns-in-None-clause-pieces c =
    let plain = split_parts 47 c.args.text.now None c.in-None.ensures.cases (lit< tt) in
    pieces_of-last c.args.text.now (no_slash-from_reads _ plain) c.requires
