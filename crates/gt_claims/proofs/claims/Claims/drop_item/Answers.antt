use Rattle.std.proofs.Common.{ap, ◌∙◌}
use Rattle.std.specs.FinMap.{remove}
use Rattle.gt_claims.proofs.EntryLemmas.{IsEachOnce-dropped, dropped_is}
use Rattle.gt_claims.proofs.claims.Claims.drop_item.Goals as goal

pub invariant_of-self : goal.invariant_of-self
invariant_of-self c =
    IsEachOnce-dropped c.args.item c.self.inside.entries.items c.drop_entry.new.entries.items c.drop_entry.ensures.entries c.self.invariant

pub returns-clause-claims : goal.returns-clause-claims
returns-clause-claims c =
    dropped_is c.args.item c.self.inside.entries.items c.drop_entry.new.entries.items c.drop_entry.ensures.entries
    ∙ ap (λ v. remove v.claims c.args.item) c.self.view_is
