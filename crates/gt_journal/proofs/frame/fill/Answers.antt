use Rattle.std.proofs.Common.{rules, arith, ◌≡◌, ◌+◌, ◌-◌, ◌<◌, List, ℕ, [], ◌∷◌, ◌++◌, length, drop, ◌∙◌, ap}
use Rattle.std.proofs.lemmas.List.{places, take_at}
use Rattle.std.proofs.lemmas.Grind.{take-set_at}
use Rattle.std.proofs.lemmas.Slice.{take-put_mid}
use Rattle.std.specs.Int.{w64, to_be_bytes}
use borrow.Rule.Slice.PartMut.{put_mid}
use Rattle.gt_journal.specs.JournalText.{frame}
use Rattle.gt_journal.proofs.frame.fill.Goals as goal

pub returns-clause-front : goal.returns-clause-front
unfolding frame
returns-clause-front c =
    let body = c.args.body.now in
    let n = length body in
    let head = c.copy_from_slice.new.self in
    let middle = c.copy_from_slice-2.new.self in
    let back = drop 8 c.args.buffer.now in
    let mid = put_mid 8 (8 + n - 8) (head ++ back) middle in
    let eight : length head ≡ 8 = ap length (c.copy_from_slice.ensures.after ∙ c.to_be_bytes.ensures) in
    let inner : length middle ≡ n = ap length c.copy_from_slice-2.ensures.after in
    let long : 8 + n < length mid = search (rules, places) in
    take-set_at mid (8 + n) (n + 9) 0 (omega arith) long
    ∙ ap (λ (l : List ℕ). l ++ 0 ∷ []) (take-put_mid 8 (8 + n - 8) (head ++ back) middle (8 + n) (omega (arith, inner)) (search (rules, places)))
    ∙ ap (λ (l : List ℕ). l ++ middle ++ 0 ∷ []) (take_at head back 8 eight)
    ∙ ap (λ (l : List ℕ). l ++ middle ++ 0 ∷ []) (c.copy_from_slice.ensures.after ∙ c.to_be_bytes.ensures)
    ∙ ap (λ (l : List ℕ). to_be_bytes w64 n ++ l ++ 0 ∷ []) c.copy_from_slice-2.ensures.after
