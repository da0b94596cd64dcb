use Rattle.std.proofs.Common.{◌≡◌, ◌∙◌, sym, ap, []}
use Rattle.std.proofs.lemmas.Bool.{eqb-true}
use Rattle.std.proofs.lemmas.List.{nil_from_length}
use Rattle.gt_paths.proofs.PieceLemmas.{pieces_of-nil}
use Rattle.gt_paths.specs.PathText.{begins_at_home, pieces_of}
use Rattle.gt_paths.proofs.pieces.behind_home.Goals as goal

pub returns-then-is_empty-clause-other : goal.returns-then-is_empty-clause-other
returns-then-is_empty-clause-other c =
    let empty : c.args.text.now ≡ [] = nil_from_length _ (eqb-true _ 0 (sym c.is_empty.ensures ∙ c.if-is_empty.true)) in
    ap (λ text. begins_at_home (pieces_of text)) empty ∙ ap begins_at_home pieces_of-nil
