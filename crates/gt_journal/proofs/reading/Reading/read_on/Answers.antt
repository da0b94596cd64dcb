use Rattle.std.proofs.Common.{◌≡◌, [], ◌++◌, List, ℕ, take, drop, append-nil, append_assoc, take-append-drop, refl, sym, ◌∙◌, ap}
use Rattle.std.proofs.lemmas.Bool.{eqb-true}
use Rattle.std.proofs.lemmas.List.{take_rest}
use Rattle.gt_journal.specs.Reading.{lists, rest_of}
use Rattle.gt_journal.proofs.Parse.{is_nil, reads_as}
use Rattle.gt_journal.proofs.reading.Reading.read_on.Goals as goal

pub loop-rest-preserved : goal.loop-rest-preserved
loop-rest-preserved c =
    let rest = c.loop-rest.rest.now in
    let n = c.in_ok-n.n in
    let (done, whole, goes) = c.loop-rest.invariant.read in
    let new = c.read_some.new.self in
    record {
      whole = c.in_ok-n.ensures.whole;
      read = (
        done ++ take n rest,
        whole
            ∙ ap (λ (l : List ℕ). done ++ l) (sym (take-append-drop n rest))
            ∙ sym (append_assoc done (take n rest) (drop n rest))
            ∙ ap (λ (l : List ℕ). (done ++ take n rest) ++ l) (sym (take_rest rest n)),
        λ file reads.
            reads_as (file ++ done ++ take n rest) (file ++ (done ++ take n rest)) (lists new.bodies.items) (lists new.bodies.items) (rest_of new) (rest_of new) (append_assoc file done (take n rest)) refl refl
            (c.in_ok-n.ensures.ok (file ++ done) (goes file reads)),
      );
    }

pub returns-clause-ok : goal.returns-clause-ok
returns-clause-ok c file reads =
    let (done, whole, goes) = c.loop-rest.invariant.read in
    let new = c.loop-rest.self in
    let none : c.loop-rest.rest.now ≡ [] = is_nil c.loop-rest.rest.now (eqb-true _ _ (sym c.is_empty.ensures ∙ c.loop-rest-test.false)) in
    let all : done ≡ c.args.bytes.now = sym (append-nil done) ∙ ap (λ (l : List ℕ). done ++ l) (sym none) ∙ sym whole in
    reads_as (file ++ done) (file ++ c.args.bytes.now) (lists new.bodies.items) (lists new.bodies.items) (rest_of new) (rest_of new) (ap (λ (l : List ℕ). file ++ l) all) refl refl (goes file reads)
