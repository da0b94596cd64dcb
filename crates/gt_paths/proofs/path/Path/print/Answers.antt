use Rattle.std.proofs.Common.{◌≡◌, ◌≤◌, ◌∙◌, sym, ap, arith, lit<, Ok, [], ◌∷◌, ◌++◌, length, take, string_bytes}
use Rattle.std.proofs.lemmas.Bool.{eqb-true, eqb-false}
use Rattle.std.proofs.lemmas.List.{nil_from_length, take_all}
use Rattle.std.proofs.lemmas.Result.{IfOk-weaker}
use Rattle.gt_paths.proofs.PathLemmas.{printed_path-slashed, slashed-take_pushed}
use Rattle.gt_paths.proofs.PieceLemmas.{read_path-printed_path}
use Rattle.gt_paths.specs.Path.{PathValue, printed_path, slashed}
use Rattle.gt_paths.specs.PathText.{read_path}
use Rattle.gt_paths.proofs.path.Path.print.Goals as goal

pub returns-then-is_empty-clause-back : goal.returns-then-is_empty-clause-back
returns-then-is_empty-clause-back c =
    let path = c.self.inside.names.items in
    let root : path ≡ [] = nil_from_length path (omega (arith, eqb-true _ 0 (sym c.is_empty.ensures ∙ c.if-is_empty.true))) in
    IfOk-weaker c.from_str.result (λ text. string_bytes text ≡ 47 ∷ []) (λ text. (home : PathValue) → read_path home (string_bytes text) ≡ Ok c.args.self.now)
    (λ text written home.
    ap (read_path home) (written ∙ ap printed_path (sym root)) ∙ read_path-printed_path home path c.self.invariant ∙ ap Ok c.self.view_is)
    c.from_str.ensures.ok

pub loop-name-preserved : goal.loop-name-preserved
loop-name-preserved c =
    c.in_ok-push_str.ensures.bytes
    ∙ ap (λ l. l ++ c.as_str.result.now) (c.in_ok-push.ensures.bytes ∙ ap (λ l. string_bytes c.loop-name.text ++ l) (c.in_ok-push.ensures.ascii (lit< tt)) ∙ ap (λ l. l ++ 47 ∷ []) c.loop-name.invariant)
    ∙ ap (λ l. (slashed (take c.loop-name.name-index c.deref-name-items.result.now) ++ 47 ∷ []) ++ l) c.as_str.ensures.value
    ∙ slashed-take_pushed c.deref-name-items.result.now c.loop-name.name-index c.name-item.result (omega arith) c.name-item.is

pub returns-clause-back : goal.returns-clause-back
returns-clause-back c = λ home.
    let path = c.self.inside.names.items in
    let names = c.deref-name-items.result.now in
    let all : length names ≤ c.loop-name.name-index = c.loop-name-test.false in
    let some : length path ≡ 0 → ⊥ = λ none. eqb-false _ 0 (sym c.is_empty.ensures ∙ c.if-is_empty.false) (omega (arith, none)) in
    let written : string_bytes c.loop-name.text ≡ printed_path path =
    c.loop-name.invariant ∙ ap slashed (take_all c.loop-name.name-index names all ∙ c.deref-name-items.ensures.value)
    ∙ sym (printed_path-slashed path some) in
    ap (read_path home) written ∙ read_path-printed_path home path c.self.invariant ∙ ap Ok c.self.view_is
