use Rattle.std.proofs.Common.{ap, sym, ◌+◌, ◌∙◌, ◌≡◌}
use Rattle.std.specs.Prelude.{IsSome}
use Rattle.gt_access.specs.Indexed.{last_of, numbers_of}
use Rattle.gt_access.specs.Rule.{ended_access, live_access}
use Rattle.gt_access.proofs.NumberLemmas.{IsNumbered-ended}
use Rattle.gt_access.proofs.TableLemmas.{ended_at_place}
use Rattle.gt_access.proofs.rules.Rules.end.Goals as goal
use Rattle.gt_access.proofs.rules.Rules.end.Goals.{After-end}

-- what the write leaves
ended : (c : After-end) → c.end.new.self.rows ≡ ended_access c.args.at c.args.number c.self.inside.rows.rows
ended c =
    let same : c.args.self.now.rows ≡ c.self.inside.rows.rows = sym (ap (λ v. v.rows) c.self.view_is) in
    let live : IsSome (live_access c.args.number c.self.inside.rows.rows) = rw same at c.requires in
    let last : last_of c.args.number (numbers_of c.self.inside.rows.rows) ≡ c.live_at-place.result + 1 =
    rw c.as_slice.ensures at c.live_at-place.ensures.last in
    c.end.ensures.rows
    ∙ ended_at_place c.args.at c.args.number c.live_at-place.result c.self.inside.rows.rows c.self.invariant.ended live last

pub invariant_of-self : goal.invariant_of-self
invariant_of-self c =
    rw (ended c) (IsNumbered-ended c.args.at c.args.number c.self.inside.rows.rows c.self.inside.newest.items c.self.invariant)

pub returns-clause-rows : goal.returns-clause-rows
returns-clause-rows c = ended c ∙ ap (λ v. ended_access c.args.at c.args.number v.rows) c.self.view_is
