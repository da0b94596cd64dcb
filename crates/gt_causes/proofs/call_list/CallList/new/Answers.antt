use Rattle.std.proofs.Common.{ℕ}
use Rattle.std.proofs.lemmas.List.Sorted.{Contains-permutation, IsPermutation-sym, IsNonDecreasingBy-from_sort}
use Rattle.gt_causes.proofs.call_list.CallList.new.Goals as goal

pub invariant_of-result : goal.invariant_of-result
invariant_of-result c i j le low = IsNonDecreasingBy-from_sort (λ (n : ℕ). n) c.sort_unstable.new.self.items c.sort_unstable.ensures.sorted i j 0 le low

pub returns : goal.returns
returns c n = (
  Contains-permutation c.sort_unstable.new.self.items c.args.numbers.items n (IsPermutation-sym c.args.numbers.items c.sort_unstable.new.self.items c.sort_unstable.ensures.permutation),
  Contains-permutation c.args.numbers.items c.sort_unstable.new.self.items n c.sort_unstable.ensures.permutation,
)
