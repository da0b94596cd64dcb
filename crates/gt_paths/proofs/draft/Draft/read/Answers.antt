-- What is hard: the loop's invariant, by which the pieces met so far and those of the rest are all the pieces.
use Rattle.gt_paths.proofs.NameLemmas.{IsName-from_test}
use Rattle.gt_paths.specs.Draft.{IsDraftOf}
use Rattle.std.proofs.Common.{rules, ◌<◌, ◌≡◌, ◌≤◌, List, ℕ, subst, length-append, ◌∙◌, sym, ap, inr, arith, [], ◌∷◌, ◌++◌, length, true, append_assoc}
use Rattle.std.proofs.lemmas.Bool.{eqb-true, eqb-false}
use Rattle.std.proofs.lemmas.List.{append-nil, nil_from_length}
use Rattle.gt_paths.proofs.PieceLemmas.{first_bad-push, first_bad-here, pieces_of-nil}
use Rattle.gt_paths.specs.Name.{is_name}
use Rattle.gt_paths.specs.Path.{PathValue}
use Rattle.gt_paths.specs.PathText.{bad_name, first_bad, pieces_of}
use Rattle.gt_paths.proofs.draft.Draft.read.Goals as goal

pub returns-then-not-is_name-clause-fault : goal.returns-then-not-is_name-clause-fault
returns-then-not-is_name-clause-fault c =
    let seen = c.loop-rest.invariant.1.0 in
    let so_far = c.loop-rest.invariant.1.1 in
    inr (
      length seen,
      ap first_bad (so_far.pieces ∙ ap (λ l. seen ++ l) c.first_piece.ensures.pieces)
          ∙ first_bad-here seen c.first_piece.result.0.now (pieces_of c.first_piece.result.1.now) so_far.good (sym c.is_name.ensures ∙ c.if-not-is_name.true),
      c.bad_name.ensures ∙ ap bad_name so_far.counted,
    )

pub loop-rest-preserved : goal.loop-rest-preserved
loop-rest-preserved c =
    let seen = c.loop-rest.invariant.1.0 in
    let so_far = c.loop-rest.invariant.1.1 in
    let piece = c.first_piece.result.0.now in
    let rest = c.first_piece.result.1.now in
    let is : is_name piece ≡ true = sym c.is_name.ensures ∙ c.if-not-is_name.false in
    let some : 1 ≤ length piece = (IsName-from_test piece is).some in
    let left : 0 < length c.loop-rest.rest.now =
    let ne = eqb-false (length c.loop-rest.rest.now) 0 (sym c.is_empty.ensures ∙ c.loop-rest-test.true) in omega (arith, ne) in
    let more = length-append seen (piece ∷ []) in (
      search rules,
      (
        seen ++ piece ∷ [],
        record {
          pieces = so_far.pieces ∙ ap (λ l. seen ++ l) c.first_piece.ensures.pieces ∙ sym (append_assoc seen (piece ∷ []) (pieces_of rest));
          good = first_bad-push seen piece so_far.good is;
          draft = λ names draft. subst (IsDraftOf c.push.new.self) (append_assoc names seen (piece ∷ [])) (c.in_ok-push.ensures.draft (names ++ seen) (so_far.draft names draft));
          counted = omega (arith, so_far.counted, more);
          shorter = omega (arith, so_far, c.first_piece.ensures.whole);
          depth = omega (arith, so_far, c.first_piece.ensures.whole, c.in_ok-push.ensures.depth);
          places = omega (arith, so_far, c.first_piece.ensures.whole);
          bytes = omega (arith, so_far.more left, c.first_piece.ensures.whole, c.in_ok-push.ensures.bytes);
          more = λ h. omega (arith, so_far.more left, c.first_piece.ensures.slash h, c.in_ok-push.ensures.bytes);
        },
      ),
    )

-- where nothing is left, the pieces are those before
all_read : (text rest : List ℕ) (seen : PathValue) → pieces_of text ≡ seen ++ pieces_of rest → length rest ≡ 0 → pieces_of text ≡ seen
all_read text rest seen e none =
    e ∙ ap (λ l. seen ++ pieces_of l) (nil_from_length rest none) ∙ ap (λ l. seen ++ l) pieces_of-nil ∙ append-nil seen

pub returns-clause-names : goal.returns-clause-names
returns-clause-names c =
    let so_far = c.loop-rest.invariant.1.1 in
    let none : length c.loop-rest.rest.now ≡ 0 = eqb-true _ 0 (sym c.is_empty.ensures ∙ c.loop-rest-test.false) in
    ap first_bad (all_read _ _ _ so_far.pieces none) ∙ so_far.good

pub returns-clause-draft : goal.returns-clause-draft
returns-clause-draft c = λ names draft.
    let so_far = c.loop-rest.invariant.1.1 in
    let none : length c.loop-rest.rest.now ≡ 0 = eqb-true _ 0 (sym c.is_empty.ensures ∙ c.loop-rest-test.false) in
    subst (λ l. IsDraftOf c.loop-rest.self (names ++ l)) (sym (all_read _ _ _ so_far.pieces none)) (so_far.draft names draft)
