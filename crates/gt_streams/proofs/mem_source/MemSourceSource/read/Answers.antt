use Rattle.gt_streams.proofs.PieceLemmas.{take-copied}
use Rattle.gt_streams.proofs.mem_source.MemSourceSource.read.Goals as goal
use Rattle.std.proofs.lemmas.List.{drop_all}
use Rattle.std.proofs.Common.{arith, drop, length, rules, subst, sym, take, ◌++◌, ◌+◌, ◌-◌, ◌∙◌, ◌≡◌, ◌≤◌}

pub returns-clause-told : goal.returns-clause-told
returns-clause-told c =
    let s = c.self.inside in
    let n = c.min-n.result in
    let rest = drop n c.args.into.now in
    let inside : s.at + n ≤ length s.bytes.items = omega arith in
    let copied : c.copy_from_slice.new.self ≡ take (s.at + n - s.at) (drop s.at s.bytes.items) = search rules in
    let left : c.args.self.now.left ≡ drop s.at s.bytes.items = search rules in
    let whole : c.args.self.now.left ≡ take n (c.copy_from_slice.new.self ++ rest) ++ drop (s.at + n) s.bytes.items = left ∙ sym (subst (λ b. take n (b ++ rest) ++ drop (s.at + n) s.bytes.items ≡ drop s.at s.bytes.items) (sym copied) (take-copied s.bytes.items rest s.at n inside)) in
    record {
      ok = search rules;
      end = λ some none. left ∙ drop_all s.at s.bytes.items (omega arith);
      err = search rules;
    }
