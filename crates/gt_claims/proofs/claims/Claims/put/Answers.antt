use Rattle.std.proofs.Common.{ap, ◌∙◌, ◌≡◌}
use Rattle.std.specs.FinMap.{from_entries, remove}
use Rattle.std.specs.Ordering.{nat_cmp}
use Rattle.gt_claims.proofs.EntryLemmas.{IsEachOnce-put, none_after, put_is}
use Rattle.gt_claims.proofs.claims.Claims.put.Goals as goal

pub invariant_of-self : goal.invariant_of-self
invariant_of-self c =
    let without : from_entries {R = nat_cmp} c.self.inside.entries.items ≡ remove c.args.self.now.claims c.args.item =
    ap (λ v. v.claims) c.self.view_is ∙ c.drop_item.ensures.claims in
    IsEachOnce-put c.args.item c.args.claim c.self.inside.entries.items c.push_reserved.new.self.items c.push_reserved.ensures.items
    (none_after c.args.self.now.claims c.args.item c.self.inside.entries.items without) c.self.invariant

pub returns-clause-claims : goal.returns-clause-claims
returns-clause-claims c =
    let without : from_entries {R = nat_cmp} c.self.inside.entries.items ≡ remove c.args.self.now.claims c.args.item =
    ap (λ v. v.claims) c.self.view_is ∙ c.drop_item.ensures.claims in
    put_is c.args.self.now.claims c.args.item c.args.claim c.self.inside.entries.items c.push_reserved.new.self.items without
    c.push_reserved.ensures.items
