use Rattle.std.proofs.Common.{List, ℕ, sym, ◌∙◌, subst}
use Rattle.std.specs.List.Sorted.{IsBinarySearchResult}
use Rattle.std.specs.Ordering.{nat_cmp}
use Rattle.gt_causes.specs.Counts.{IsRising}
use Rattle.gt_causes.proofs.Lists.{found, finds}
use Rattle.gt_causes.proofs.call_list.CallList.has.Goals as goal

pub returns : goal.returns
returns c =
    let x = c.args.number in
    let r = c.binary_search.result in
    let xs = c.args.self.now in
    let is : IsBinarySearchResult (λ y. nat_cmp y x) xs r = subst (λ (l : List ℕ). IsBinarySearchResult (λ y. nat_cmp y x) l r) (c.deref.ensures.value ∙ c.self.view_is) c.binary_search.ensures.position in
    let rising : IsRising xs = subst IsRising c.self.view_is c.self.invariant in
    (λ told. found xs x rising r is (sym c.is_ok.ensures.value ∙ told), λ has. c.is_ok.ensures.value ∙ finds xs x rising r is has)
